-- The clauses and the goal that are read from words are those whose encoding the words are, both ways.
use Prim.Native.Nat.{ℕ, zero, suc, ◌^◌, ◌<◌}
use native.Mathlib.Omega.{arith}
use mathlib.Core.Path.{◌≡◌, refl, sym, ap, ap₂, ◌∙◌}
use mathlib.Core.List.{List, [], ◌∷◌, ◌++◌, append_assoc}
use lib.ListN.{length}
use Rattle.terms.specs.Term.{Term}
use Rattle.terms.specs.Cells.{enc, Atom}
use Rattle.program.specs.Limits.{max_body, any_mode, ground_mode}
use Rattle.program.specs.Reply.{out_of_range, bad_goal}
use Rattle.program.specs.Reading.{Decoded, right, next, bounded, several}
use Rattle.program.specs.Atoms.{atom, atoms}
use Rattle.program.specs.Program.{Clause}
use Rattle.program.specs.Faults.{clause, goal, mask_of}
use Rattle.program.specs.Within.{Each, none, more, after, Numbered, modes_of, encode_atoms, encode_clauses, WithinClause}
use Rattle.program.proofs.Words.{Bounded, ReadWords, next_right, bounded_read, read_bounded, several_read, read_several}
use Rattle.program.proofs.AtomWords.{AtomRead, AtomsRead, atom_read, atoms_read, read_atom, read_atoms}
use Rattle.program.proofs.Modes.{modes_of_mask, mask_below, mask_of_modes, modes_each, modes_length}

pub record ClauseRead (predicates functions ws : List ℕ) (c : Clause) (rest : List ℕ) : Type 0 where
  pub is : ws ≡ length c.body ∷ enc c.head ++ (encode_atoms c.body ++ rest)
  pub within : WithinClause predicates functions c

clause_parts : (ps fs : List ℕ) (m : ℕ) (h : Term × ℕ) (b : List Term) (ws r₁ r₂ r₃ rest : List ℕ) (c : Clause)
    → Bounded 0 max_body m ws r₁ → AtomRead ps fs 0 r₁ h.0 h.1 r₂ → AtomsRead ps fs m h.1 r₂ b r₃
    → ◌≡◌ {A = Decoded Clause} (right (record { head = h.0; body = b }) r₃) (right c rest) → ClauseRead ps fs ws c rest
clause_parts ps fs m h b ws r₁ r₂ r₃ rest c length-read head_read body-read q =
    let same : record { head = h.0; body = b } ≡ c = cc in
    let left : r₃ ≡ rest = cc in
    let size : length b ≡ m = body-read.number in
    rw (← same, ← left)
    (record {
      is =
          length-read.is
          ∙ ap₂ (λ (x : ℕ) (l : List ℕ). x ∷ l) (sym size) (head_read.is ∙ ap (λ (l : List ℕ). enc h.0 ++ l) body-read.are);
      within =
          record {
            body = rw size length-read.most;
            head_atom = head_read.sound;
            body_atoms = body-read.sound;
            numbered = (head_read.numbered, rw head_read.meets at body-read.numbered);
          };
    })

pub clause_read : (ps fs ws : List ℕ) (c : Clause) (rest : List ℕ) → clause ps fs ws ≡ right c rest → ClauseRead ps fs ws c rest
unfolding clause
clause_read ps fs ws c rest e =
    let behind_head : ℕ → Term × ℕ → List ℕ → Decoded Clause = λ m h r. next (atoms ps fs m h.1 r) (λ b r'. right (record { head = h.0; body = b.0 }) r') in
    let behind_length : ℕ → List ℕ → Decoded Clause = λ m r. next (atom ps fs 0 r) (behind_head m) in
    let one = next_right (bounded out_of_range 0 max_body ws) behind_length c rest e in
    let two = next_right (atom ps fs 0 one.1) (behind_head one.0) c rest one.3 in
    let build : List Term × ℕ → List ℕ → Decoded Clause = λ b r. right (record { head = two.0.0; body = b.0 }) r in
    let three = next_right (atoms ps fs one.0 two.0.1 two.1) build c rest two.3 in
    clause_parts ps fs one.0 two.0 three.0.0 ws one.1 two.1 three.1 rest c
    (bounded_read out_of_range 0 max_body one.0 ws one.1 one.2)
    (atom_read ps fs 0 one.1 two.0.0 two.0.1 two.1 two.2)
    (atoms_read ps fs one.0 two.0.1 two.1 three.0.0 three.0.1 three.1 three.2) three.3

pub read_clause : (ps fs : List ℕ) (c : Clause) (rest : List ℕ) → WithinClause ps fs c
    → clause ps fs (length c.body ∷ enc c.head ++ (encode_atoms c.body ++ rest)) ≡ right c rest
unfolding clause
read_clause ps fs c rest w =
    rw (
      read_bounded out_of_range 0 max_body (length c.body) (enc c.head ++ (encode_atoms c.body ++ rest)) (omega arith) w.body,
      read_atom ps fs 0 c.head (encode_atoms c.body ++ rest) w.head_atom w.numbered.0,
      read_atoms ps fs (after 0 c.head) c.body rest w.body_atoms w.numbered.1,
    )

pub record ClausesRead (predicates functions : List ℕ) (n : ℕ) (ws : List ℕ) (cs : List Clause) (rest : List ℕ) : Type 0 where
  pub are : ws ≡ encode_clauses cs ++ rest
  pub number : length cs ≡ n
  pub within : Each (WithinClause predicates functions) cs

-- a clause's words stand before those of the clauses after it
clause_first_law : (c : Clause) (cs : List Clause) (rest : List ℕ)
    → length c.body ∷ enc c.head ++ (encode_atoms c.body ++ (encode_clauses cs ++ rest)) ≡ encode_clauses (c ∷ cs) ++ rest
clause_first_law c cs rest =
    ap (λ (l : List ℕ). length c.body ∷ l)
    (sym (append_assoc (enc c.head) (encode_atoms c.body ++ encode_clauses cs) rest
    ∙ ap (λ (l : List ℕ). enc c.head ++ l) (append_assoc (encode_atoms c.body) (encode_clauses cs) rest)))

clauses_more : (ps fs : List ℕ) (n : ℕ) (ws mid last rest : List ℕ) (c : Clause) (others cs : List Clause)
    → ClauseRead ps fs ws c mid → ClausesRead ps fs n mid others last
    → ◌≡◌ {A = Decoded (List Clause)} (right (c ∷ others) last) (right cs rest) → ClausesRead ps fs (suc n) ws cs rest
clauses_more ps fs n ws mid last rest c others cs first r q =
    let same : c ∷ others ≡ cs = cc in
    let left : last ≡ rest = cc in
    rw (← same, ← left)
    (record {
      are =
          first.is ∙ ap (λ (l : List ℕ). length c.body ∷ enc c.head ++ (encode_atoms c.body ++ l)) r.are ∙ clause_first_law c others last;
      number = ap suc r.number;
      within = more first.within r.within;
    })

pub clauses_read : (ps fs : List ℕ) (n : ℕ) (ws : List ℕ) (cs : List Clause) (rest : List ℕ)
    → several (clause ps fs) n ws ≡ right cs rest → ClausesRead ps fs n ws cs rest
unfolding several
clauses_read ps fs zero ws cs rest e =
    let same : [] ≡ cs = cc in
    let left : ws ≡ rest = cc in
    rw (← same) (record { are = left; number = refl; within = none })
clauses_read ps fs (suc n) ws cs rest e =
    let f : Clause → List ℕ → Decoded (List Clause) = λ c mid. next (several (clause ps fs) n mid) (λ others last. right (c ∷ others) last) in
    let one = next_right (clause ps fs ws) f cs rest e in
    let two = next_right (several (clause ps fs) n one.1) (λ others last. right (one.0 ∷ others) last) cs rest one.3 in
    clauses_more ps fs n ws one.1 two.1 rest one.0 two.0 cs
    (clause_read ps fs ws one.0 one.1 one.2) (clauses_read ps fs n one.1 two.0 two.1 two.2) two.3

pub read_clauses : (ps fs : List ℕ) (cs : List Clause) (rest : List ℕ) → Each (WithinClause ps fs) cs
    → several (clause ps fs) (length cs) (encode_clauses cs ++ rest) ≡ right cs rest
unfolding several
read_clauses ps fs [] rest none = refl
read_clauses ps fs (c ∷ cs) rest (more w each) =
    rw (← clause_first_law c cs rest, read_clause ps fs c (encode_clauses cs ++ rest) w, read_clauses ps fs cs rest each)

pub record GoalRead (predicates functions ws : List ℕ) (t : Term) (mask : ℕ) (rest : List ℕ) : Type 0 where
  pub is : ws ≡ enc t ++ (after 0 t ∷ modes_of (after 0 t) mask ++ rest)
  pub sound : Atom predicates functions t
  pub numbered : Numbered 0 t
  pub marks : mask < 2 ^ after 0 t

goal_parts : (ps fs : List ℕ) (a : Term × ℕ) (k : ℕ) (modes ws r₁ r₂ r₃ rest : List ℕ) (g : Term × ℕ)
    → AtomRead ps fs 0 ws a.0 a.1 r₁ → Bounded a.1 a.1 k r₁ r₂ → ReadWords ground_mode k modes r₂ r₃
    → ◌≡◌ {A = Decoded (Term × ℕ)} (right (a.0, mask_of modes) r₃) (right g rest) → GoalRead ps fs ws g.0 g.1 rest
goal_parts ps fs a k modes ws r₁ r₂ r₃ rest g atom-part count-part modes-part q =
    let same : ◌≡◌ {A = Term × ℕ} (a.0, mask_of modes) g = cc in
    let left : r₃ ≡ rest = cc in
    let met : after 0 a.0 ≡ length modes = omega (arith, atom-part.meets, count-part.least, count-part.most, modes-part.count) in
    let size : k ≡ after 0 a.0 = omega (arith, atom-part.meets, count-part.least, count-part.most) in
    let back : modes_of (after 0 a.0) (mask_of modes) ≡ modes = rw met (modes_of_mask modes modes-part.each) in
    rw (← same, ← left)
    (record {
      is =
          atom-part.is
          ∙ ap (λ (l : List ℕ). enc a.0 ++ l)
          (count-part.is ∙ ap₂ (λ (x : ℕ) (l : List ℕ). x ∷ l) size (modes-part.are ∙ ap (λ (l : List ℕ). l ++ r₃) (sym back)));
      sound = atom-part.sound;
      numbered = atom-part.numbered;
      marks = rw met (mask_below modes modes-part.each);
    })

pub goal_read : (ps fs ws : List ℕ) (g : Term × ℕ) (rest : List ℕ) → goal ps fs ws ≡ right g rest → GoalRead ps fs ws g.0 g.1 rest
unfolding goal
goal_read ps fs ws g rest e =
    let behind_count : Term → ℕ → List ℕ → Decoded (Term × ℕ) = λ t k r. next (several (bounded bad_goal any_mode ground_mode) k r) (λ modes r'. right (t, mask_of modes) r') in
    let behind_atom : Term × ℕ → List ℕ → Decoded (Term × ℕ) = λ a r. next (bounded bad_goal a.1 a.1 r) (behind_count a.0) in
    let one = next_right (atom ps fs 0 ws) behind_atom g rest e in
    let two = next_right (bounded bad_goal one.0.1 one.0.1 one.1) (behind_count one.0.0) g rest one.3 in
    let build : List ℕ → List ℕ → Decoded (Term × ℕ) = λ modes r. right (one.0.0, mask_of modes) r in
    let three = next_right (several (bounded bad_goal any_mode ground_mode) two.0 two.1) build g rest two.3 in
    goal_parts ps fs one.0 two.0 three.0 ws one.1 two.1 three.1 rest g
    (atom_read ps fs 0 ws one.0.0 one.0.1 one.1 one.2)
    (bounded_read bad_goal one.0.1 one.0.1 two.0 one.1 two.1 two.2)
    (several_read bad_goal ground_mode two.0 three.0 two.1 three.1 three.2) three.3

pub read_goal : (ps fs : List ℕ) (t : Term) (mask : ℕ) (rest : List ℕ) → Atom ps fs t → Numbered 0 t → mask < 2 ^ after 0 t
    → goal ps fs (enc t ++ (after 0 t ∷ modes_of (after 0 t) mask ++ rest)) ≡ right (t, mask) rest
unfolding goal
read_goal ps fs t mask rest a m h =
    let here : several (bounded bad_goal any_mode ground_mode) (after 0 t) (modes_of (after 0 t) mask ++ rest) ≡ right (modes_of (after 0 t) mask) rest
    = rw (modes_length (after 0 t) mask) at (read_several bad_goal ground_mode (modes_of (after 0 t) mask) rest (modes_each (after 0 t) mask)) in
    rw (
      read_atom ps fs 0 t (after 0 t ∷ modes_of (after 0 t) mask ++ rest) a m,
      read_bounded bad_goal (after 0 t) (after 0 t) (after 0 t) (modes_of (after 0 t) mask ++ rest) (omega arith) (omega arith),
      here,
      mask_of_modes (after 0 t) mask h,
    )
