-- An accepted program's words are its encoding, it is within the limits, and every program within the limits is accepted.
use Prim.Native.Nat.{ℕ, ◌^◌, ◌≤◌, ◌<◌}
use native.Mathlib.Omega.{arith}
use mathlib.Core.Path.{◌≡◌, refl, sym, ap, ◌∙◌}
use mathlib.Core.Bool.{Bool, true, false}
use mathlib.Core.List.{List, [], ◌∷◌, ◌++◌, append-nil}
use lib.ListN.{length}
use lib.Dec.{ltb}
use borrow.Author.Tests.{le-ltb, ltb-false}
use Rattle.terms.specs.Term.{Term}
use Rattle.terms.specs.Cells.{enc, Atom, pick}
use Rattle.program.specs.Limits.{max_words, min_predicates, max_declared, max_arity}
use Rattle.program.specs.Reply.{out_of_range, too_long}
use Rattle.program.specs.Reading.{Decoded, wrong, right, next, bounded, several}
use Rattle.program.specs.Program.{Clause, Program}
use Rattle.program.specs.Faults.{clause, goal, ended, arities, written, declared, whole, fault, sound, found_in, faults}
use Rattle.program.specs.Within.{Each, after, Numbered, modes_of, encode_clauses, encode, WithinClause, WithinLimits}
use Rattle.program.proofs.Words.{Bounded, ReadWords, next_right, bounded_read, read_bounded, several_read, read_several}
use Rattle.program.proofs.ClauseWords.{ClausesRead, GoalRead, clauses_read, goal_read, read_clauses, read_goal}

-- the goal's words
abbrev goal_words : Term → ℕ → List ℕ
goal_words t mask = enc t ++ after 0 t ∷ modes_of (after 0 t) mask

-- what is known of what is written behind the declarations
pub record WrittenRead (ps fs : List ℕ) (n : ℕ) (ws : List ℕ) (p : Program) : Type 0 where
  pub are : ws ≡ encode_clauses p.clauses ++ goal_words p.goal p.grounded
  pub predicates_are : p.predicates ≡ ps
  pub functions_are : p.functions ≡ fs
  pub number : length p.clauses ≡ n
  pub within : Each (WithinClause ps fs) p.clauses
  pub goal_atom : Atom ps fs p.goal
  pub goal_numbered : Numbered 0 p.goal
  pub marks : p.grounded < 2 ^ after 0 p.goal

abbrev program_of : List ℕ → List ℕ → List Clause → Term × ℕ → Program
program_of ps fs cs g = record { predicates = ps; functions = fs; clauses = cs; goal = g.0; grounded = g.1 }

written_parts : (ps fs : List ℕ) (n : ℕ) (ws r₁ r₂ rest : List ℕ) (cs : List Clause) (g : Term × ℕ) (p : Program)
    → ClausesRead ps fs n ws cs r₁ → GoalRead ps fs r₁ g.0 g.1 r₂ → ended (program_of ps fs cs g) r₂ ≡ right p rest
    → WrittenRead ps fs n ws p
written_parts ps fs n ws r₁ [] rest cs g p clauses-part goal-part q =
    let same : program_of ps fs cs g ≡ p = cc in
    rw (← same)
    (record {
      are =
          clauses-part.are
          ∙ ap (λ (l : List ℕ). encode_clauses cs ++ l)
          (goal-part.is ∙ ap (λ (l : List ℕ). enc g.0 ++ after 0 g.0 ∷ l) (append-nil (modes_of (after 0 g.0) g.1)));
      predicates_are = refl;
      functions_are = refl;
      number = clauses-part.number;
      within = clauses-part.within;
      goal_atom = goal-part.sound;
      goal_numbered = goal-part.numbered;
      marks = goal-part.marks;
    })
written_parts ps fs n ws r₁ (w ∷ r₂) rest cs g p clauses-part goal-part q = let z : ◌≡◌ {A = ℕ} 0 1 = cc in absurd (omega arith)

written_read : (ps fs : List ℕ) (n : ℕ) (ws : List ℕ) (p : Program) (rest : List ℕ) → written ps fs n ws ≡ right p rest → WrittenRead ps fs n ws p
unfolding written
written_read ps fs n ws p rest e =
    let behindGoal : List Clause → Term × ℕ → List ℕ → Decoded Program = λ cs g r. ended (program_of ps fs cs g) r in
    let behind_clauses : List Clause → List ℕ → Decoded Program = λ cs r. next (goal ps fs r) (behindGoal cs) in
    let one = next_right (several (clause ps fs) n ws) behind_clauses p rest e in
    let two = next_right (goal ps fs one.1) (behindGoal one.0) p rest one.3 in
    written_parts ps fs n ws one.1 two.1 rest one.0 two.0 p
    (clauses_read ps fs n ws one.0 one.1 one.2) (goal_read ps fs one.1 two.0 two.1 two.2) two.3

read_written : (p : Program) → WithinLimits p
    → written p.predicates p.functions (length p.clauses) (encode_clauses p.clauses ++ goal_words p.goal p.grounded) ≡ right p []
unfolding written
read_written p w =
    rw (
      read_clauses p.predicates p.functions p.clauses (goal_words p.goal p.grounded) w.clauses_within,
      ← append-nil (modes_of (after 0 p.goal) p.grounded),
      read_goal p.predicates p.functions p.goal p.grounded [] w.goal_atom w.goal_numbered w.marks,
    )

-- what is known of a whole that was read, but for its length
pub record WholeRead (ws : List ℕ) (p : Program) : Type 0 where
  pub are : encode p ≡ ws
  pub within : length ws ≤ max_words → WithinLimits p

whole_are : (np nf nc : ℕ) (ps fs ws r₁ r₂ r₃ r₄ r₅ : List ℕ) (p : Program)
    → Bounded min_predicates max_declared np ws r₁ → Bounded 0 max_declared nf r₁ r₂ → Bounded 0 max_declared nc r₂ r₃
    → ReadWords max_arity np ps r₃ r₄ → ReadWords max_arity nf fs r₄ r₅ → WrittenRead ps fs nc r₅ p
    → encode p ≡ ws
unfolding encode
whole_are np nf nc ps fs ws r₁ r₂ r₃ r₄ r₅ p b₁ b₂ b₃ a₁ a₂ w =
    rw (b₁.is, b₂.is, b₃.is, a₁.are, a₂.are, w.are, ← a₁.count, ← a₂.count, ← w.number, w.predicates_are, w.functions_are)

whole_parts : (np nf nc : ℕ) (ps fs ws r₁ r₂ r₃ r₄ r₅ : List ℕ) (p : Program)
    → Bounded min_predicates max_declared np ws r₁ → Bounded 0 max_declared nf r₁ r₂ → Bounded 0 max_declared nc r₂ r₃
    → ReadWords max_arity np ps r₃ r₄ → ReadWords max_arity nf fs r₄ r₅ → WrittenRead ps fs nc r₅ p
    → WholeRead ws p
whole_parts np nf nc ps fs ws r₁ r₂ r₃ r₄ r₅ p b₁ b₂ b₃ a₁ a₂ w =
    let same : encode p ≡ ws = whole_are np nf nc ps fs ws r₁ r₂ r₃ r₄ r₅ p b₁ b₂ b₃ a₁ a₂ w in
    record {
      are = same;
      within = λ short.
          record {
            some = rw (w.predicates_are, a₁.count) b₁.least;
            predicates_most = rw (w.predicates_are, a₁.count) b₁.most;
            functions_most = rw (w.functions_are, a₂.count) b₂.most;
            clauses_most = rw w.number b₃.most;
            predicate_arities = rw w.predicates_are a₁.each;
            function_arities = rw w.functions_are a₂.each;
            clauses_within = rw (w.predicates_are, w.functions_are) w.within;
            goal_atom = rw (w.predicates_are, w.functions_are) w.goal_atom;
            goal_numbered = w.goal_numbered;
            marks = w.marks;
            words_most = rw same short;
          };
    }

declared_read : (np nf nc : ℕ) (ws r₁ r₂ r₃ : List ℕ) (p : Program) (rest : List ℕ)
    → Bounded min_predicates max_declared np ws r₁ → Bounded 0 max_declared nf r₁ r₂ → Bounded 0 max_declared nc r₂ r₃
    → declared np nf nc r₃ ≡ right p rest → WholeRead ws p
unfolding declared
declared_read np nf nc ws r₁ r₂ r₃ p rest b₁ b₂ b₃ e =
    let behind_predicates : List ℕ → List ℕ → Decoded Program = λ ps r. next (arities nf r) (λ fs r'. written ps fs nc r') in
    let one = next_right (arities np r₃) behind_predicates p rest e in
    let two = next_right (arities nf one.1) (λ fs r. written one.0 fs nc r) p rest one.3 in
    whole_parts np nf nc one.0 two.0 ws r₁ r₂ r₃ one.1 two.1 p b₁ b₂ b₃
    (several_read out_of_range max_arity np one.0 r₃ one.1 one.2)
    (several_read out_of_range max_arity nf two.0 one.1 two.1 two.2)
    (written_read one.0 two.0 nc two.1 p rest two.3)

pub whole_read : (ws : List ℕ) (p : Program) (rest : List ℕ) → whole ws ≡ right p rest → WholeRead ws p
unfolding whole
whole_read ws p rest e =
    let behind_second : ℕ → ℕ → List ℕ → Decoded Program = λ np nf r. next (bounded out_of_range 0 max_declared r) (λ nc r'. declared np nf nc r') in
    let behind_first : ℕ → List ℕ → Decoded Program = λ np r. next (bounded out_of_range 0 max_declared r) (behind_second np) in
    let one = next_right (bounded out_of_range min_predicates max_declared ws) behind_first p rest e in
    let two = next_right (bounded out_of_range 0 max_declared one.1) (behind_second one.0) p rest one.3 in
    let three = next_right (bounded out_of_range 0 max_declared two.1) (λ nc r. declared one.0 two.0 nc r) p rest two.3 in
    declared_read one.0 two.0 three.0 ws one.1 two.1 three.1 p rest
    (bounded_read out_of_range min_predicates max_declared one.0 ws one.1 one.2)
    (bounded_read out_of_range 0 max_declared two.0 one.1 two.1 two.2)
    (bounded_read out_of_range 0 max_declared three.0 two.1 three.1 three.2) three.3

read_whole : (p : Program) → WithinLimits p → whole (encode p) ≡ right p []
unfolding whole declared encode
read_whole p w =
    rw (
      read_bounded out_of_range min_predicates max_declared (length p.predicates) _ w.some w.predicates_most,
      read_bounded out_of_range 0 max_declared (length p.functions) _ (omega arith) w.functions_most,
      read_bounded out_of_range 0 max_declared (length p.clauses) _ (omega arith) w.clauses_most,
      read_several out_of_range max_arity p.predicates _ w.predicate_arities,
      read_several out_of_range max_arity p.functions _ w.function_arities,
      read_written p w,
    )

found_sound : (ws : List ℕ) (p : Program) → faults ws ≡ sound p → (length ws ≤ max_words) × (rest : List ℕ) × (whole ws ≡ right p rest)
unfolding faults
found_sound ws p e = by (ltb max_words (length ws)) refl e
  where
    found : (r : Decoded Program) → found_in ws r ≡ sound p → (rest : List ℕ) × (r ≡ right p rest)
    found (wrong number rest) q = let z : ◌≡◌ {A = ℕ} 0 1 = cc in absurd (omega arith)
    found (right a rest) q = (rest, ap (λ (x : Program). right x rest) (let same : a ≡ p = cc in same))

    by : (b : Bool) → ltb max_words (length ws) ≡ b → pick b (fault too_long max_words) (found_in ws (whole ws)) ≡ sound p
        → (length ws ≤ max_words) × (rest : List ℕ) × (whole ws ≡ right p rest)
    by true t q = let z : ◌≡◌ {A = ℕ} 0 1 = cc in absurd (omega arith)
    by false t q = let r = found (whole ws) q in (ltb-false _ _ t, r.0, r.1)

-- an accepted program's words are the encoding of what is read
pub sound_encoded : (ws : List ℕ) (p : Program) → faults ws ≡ sound p → encode p ≡ ws
sound_encoded ws p e = let f = found_sound ws p e in (whole_read ws p f.1 f.2).are

-- an accepted program is within the limits
pub sound_within : (ws : List ℕ) (p : Program) → faults ws ≡ sound p → WithinLimits p
sound_within ws p e = let f = found_sound ws p e in (whole_read ws p f.1 f.2).within f.0

-- a program within the limits is accepted: nothing is refused for no reason
pub within_sound : (p : Program) → WithinLimits p → faults (encode p) ≡ sound p
unfolding faults
within_sound p w = rw (le-ltb _ _ w.words_most, read_whole p w)

-- two accepted runs of words that say one program are the same
pub sound_once : (ws ws' : List ℕ) (p : Program) → faults ws ≡ sound p → faults ws' ≡ sound p → ws ≡ ws'
sound_once ws ws' p e e' = sym (sound_encoded ws p e) ∙ sound_encoded ws' p e'
