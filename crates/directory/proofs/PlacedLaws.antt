-- Everything stands where the walks over the clauses and the goal wrote it, and stays there while the entries behind are written.
use Prim.Native.Nat.{ℕ, ◌+◌, ◌≤◌, ◌<◌}
use native.Mathlib.Omega.{arith}
use mathlib.Core.Path.{◌≡◌, ap, ◌∙◌}
use mathlib.Core.List.{List, [], ◌∷◌, ◌++◌}
use lib.ListN.{length, get_or, set, take, drop, length-set}
use lib.Seq.{take-length, drop-length, get_or-set_same, get_or-set_other}
use Rattle.terms.specs.Term.{Term}
use Rattle.terms.specs.Cells.{Atom}
use Rattle.program.specs.Program.{Nth, Clause, Program, bodies}
use Rattle.program.specs.Within.{Each, none, more, encode_clauses, WithinClause}
use Rattle.program.specs.Limits.{max_bodies}
use Rattle.program.proofs.Nths.{nth_below}
use Rattle.directory.specs.Layout.{body_count, clause_count, functions_start, clauses_start, goal_start, goal_cells, goal_ground, clause_head, clause_cells, clause_first, clause_vars, body_start, body_cells, body_list, dir_words, predicates_start}
use Rattle.directory.specs.Said.{said, Accepted}
use Rattle.directory.specs.Walked.{ClausesWritten, GoalWritten, HeadIn, Placed}
use Rattle.directory.specs.Lists.{VariablesAt, first_of}
use Rattle.directory.proofs.Cuts.{each_nth}
use Rattle.directory.proofs.ClausesWalk.{bodies_most}
use Rattle.directory.proofs.AcceptedWords.{said_within, words_short, goal_part, predicates_are, functions_are, clauses_within}

-- entries of clauses and body atoms are in their parts
pub bodies_at_most : (words : List ℕ) → Accepted words → length (bodies (said words).clauses) ≤ max_bodies
bodies_at_most words a =
    let w = said_within words a in
    let h = bodies_most (said words).predicates (said words).functions (said words).clauses (length (said words).clauses) w.clauses_within in
    let e : length (bodies (take (length (said words).clauses) (said words).clauses)) ≡ length (bodies (said words).clauses) = ap (λ (cs : List Clause). length (bodies cs)) (take-length (said words).clauses) in
    omega (arith, w.clauses_most)

-- behind the clauses stands the goal
pub goal_comes : (words before dir : List ℕ) (end : ℕ)
    → ClausesWritten words (said words).clauses (goal_part (said words)) before dir (length (said words).clauses) end → drop end words ≡ goal_part (said words)
goal_comes words before dir end w =
    w.to_come ∙ ap (λ (cs : List Clause). encode_clauses cs ++ goal_part (said words)) (drop-length (said words).clauses)

module _ (words : List ℕ) (a : Accepted words) (f at n : ℕ) (f-is : f ≡ predicates_start + length (said words).predicates)
    (at-is : at ≡ f + length (said words).functions) (n-is : n ≡ length (said words).clauses) (before d₁ d₂ : List ℕ) (end : ℕ) (size : length d₂ ≡ dir_words)
    (w : ClausesWritten words (said words).clauses (goal_part (said words)) before d₁ (length (said words).clauses) end)
    (g : GoalWritten words (said words).goal (said words).grounded d₁ d₂) where
  abbrev p : Program
  p = said words

  abbrev total : ℕ
  total = get_or d₂ (clause_first + n) 0

  abbrev pub placed_in : List ℕ
  placed_in = set (set (set (set d₂ body_count total) clause_count n) functions_start f) clauses_start at

  behind : (x : ℕ) → clauses_start < x → get_or placed_in x 0 ≡ get_or d₂ x 0
  behind x h =
      get_or-set_other (set (set (set d₂ body_count total) clause_count n) functions_start f) clauses_start x at 0 (λ z. omega arith)
      ∙ get_or-set_other (set (set d₂ body_count total) clause_count n) functions_start x f 0 (λ z. omega arith)
      ∙ get_or-set_other (set d₂ body_count total) clause_count x n 0 (λ z. omega arith)
      ∙ get_or-set_other d₂ body_count x total 0 (λ z. omega arith)

  far_behind : (x : ℕ) → goal_ground < x → get_or placed_in x 0 ≡ get_or d₁ x 0
  far_behind x h = behind x (omega arith) ∙ g.kept x h

  clauses_start_law : get_or placed_in clauses_start 0 ≡ at
  clauses_start_law = get_or-set_same (set (set (set d₂ body_count total) clause_count n) functions_start f) clauses_start at 0 (rw (length-set, length-set, length-set) (omega arith))

  functions_start_law : get_or placed_in functions_start 0 ≡ f
  functions_start_law =
      get_or-set_other (set (set (set d₂ body_count total) clause_count n) functions_start f) clauses_start functions_start at 0 (λ z. omega arith)
      ∙ get_or-set_same (set (set d₂ body_count total) clause_count n) functions_start f 0 (rw (length-set, length-set) (omega arith))

  clauses_counted : get_or placed_in clause_count 0 ≡ n
  clauses_counted =
      get_or-set_other (set (set (set d₂ body_count total) clause_count n) functions_start f) clauses_start clause_count at 0 (λ z. omega arith)
      ∙ get_or-set_other (set (set d₂ body_count total) clause_count n) functions_start clause_count f 0 (λ z. omega arith)
      ∙ get_or-set_same (set d₂ body_count total) clause_count n 0 (rw length-set (omega arith))

  bodies_counted : get_or placed_in body_count 0 ≡ length (bodies p.clauses)
  bodies_counted =
      get_or-set_other (set (set (set d₂ body_count total) clause_count n) functions_start f) clauses_start body_count at 0 (λ z. omega arith)
      ∙ get_or-set_other (set (set d₂ body_count total) clause_count n) functions_start body_count f 0 (λ z. omega arith)
      ∙ get_or-set_other (set d₂ body_count total) clause_count body_count n 0 (λ z. omega arith)
      ∙ get_or-set_same d₂ body_count total 0 (omega arith)
      ∙ g.kept (clause_first + n) (omega arith)
      ∙ ap (λ (k : ℕ). get_or d₁ (clause_first + k) 0) n-is
      ∙ w.firsts (length p.clauses) (omega arith)
      ∙ ap (λ (cs : List Clause). length (bodies cs)) (take-length p.clauses)

  head_placed : {x : ℕ} {c : Clause} → Nth p.clauses x c → HeadIn words placed_in c x
  head_placed {x} q =
      let h = w.heads q (nth_below q) in
      record {
        stands = rw (far_behind (clause_head + x) (omega arith), far_behind (clause_cells + x) (omega arith)) h.stands;
        head_variables = λ v. rw (far_behind (clause_vars + x) (omega arith)) (h.head_variables v);
        few = rw (far_behind (clause_vars + x) (omega arith)) h.few;
      }

  pub placed : Placed words (said words) placed_in
  placed =
      record {
        size = rw (length-set, length-set, length-set, length-set) size;
        words_most = words_short words a;
        functions_in = rw (functions_start_law, clauses_start_law) (omega arith, omega arith, clauses_within words a f f-is at at-is);
        predicates_are = rw functions_start_law (predicates_are words a f f-is);
        functions_are = rw (functions_start_law, clauses_start_law) (functions_are words a f f-is at at-is);
        goal_stands = rw (behind goal_start (omega arith), behind goal_cells (omega arith)) g.stands;
        goal_ground_law = behind goal_ground (omega arith) ∙ g.ground_is;
        clause_count_law = clauses_counted ∙ n-is;
        body_count_law = bodies_counted;
        heads = λ q. head_placed q;
        firsts = λ x h. far_behind (clause_first + x) (omega arith) ∙ w.firsts x h;
        written = λ {x} q.
            rw (far_behind (body_start + x) (omega arith), far_behind (body_cells + x) (omega arith))
            (w.written (rw (take-length p.clauses) q));
      }

-- entries from the lists on may change
module _ (words : List ℕ) (a : Accepted words) (dir dir' : List ℕ) (size : length dir' ≡ length dir)
    (same : (x : ℕ) → x < body_list → get_or dir' x 0 ≡ get_or dir x 0) (w : Placed words (said words) dir) where
  head_kept : {x : ℕ} {c : Clause} → Nth (said words).clauses x c → HeadIn words dir' c x
  head_kept {x} q =
      let h = w.heads q in
      let l = nth_below q in
      let most = (said_within words a).clauses_most in
      record {
        stands = rw (same (clause_head + x) (omega arith), same (clause_cells + x) (omega arith)) h.stands;
        head_variables = λ v. rw (same (clause_vars + x) (omega arith)) (h.head_variables v);
        few = rw (same (clause_vars + x) (omega arith)) h.few;
      }

  pub placed_kept : Placed words (said words) dir'
  placed_kept =
      let most = (said_within words a).clauses_most in
      record {
        size = size ∙ w.size;
        words_most = w.words_most;
        functions_in = rw (same functions_start (omega arith), same clauses_start (omega arith)) w.functions_in;
        predicates_are = rw (same functions_start (omega arith)) w.predicates_are;
        functions_are = rw (same functions_start (omega arith), same clauses_start (omega arith)) w.functions_are;
        goal_stands = rw (same goal_start (omega arith), same goal_cells (omega arith)) w.goal_stands;
        goal_ground_law = same goal_ground (omega arith) ∙ w.goal_ground_law;
        clause_count_law = same clause_count (omega arith) ∙ w.clause_count_law;
        body_count_law = same body_count (omega arith) ∙ w.body_count_law;
        heads = λ q. head_kept q;
        firsts = λ x h. same (clause_first + x) (omega arith) ∙ w.firsts x h;
        written = λ {x} q.
            let l = nth_below q in
            let few = bodies_at_most words a in
            rw (same (body_start + x) (omega arith), same (body_cells + x) (omega arith)) (w.written q);
      }

-- the atoms of the program are within the limits
each_append : {A : Type 0} {P : A → Type 0} {l m : List A} → Each P l → Each P m → Each P (l ++ m)
each_append none f = f
each_append (more p e) f = more p (each_append e f)

pub bodies_atoms : (P F : List ℕ) (cs : List Clause) → Each (WithinClause P F) cs → Each (Atom P F) (bodies cs)
bodies_atoms P F [] none = none
bodies_atoms P F (c ∷ cs) (more w e) = each_append w.body_atoms (bodies_atoms P F cs e)

pub body_atom : (words : List ℕ) → Accepted words → {j : ℕ} {A : Term} → Nth (bodies (said words).clauses) j A
    → Atom (said words).predicates (said words).functions A
body_atom words a q = each_nth (bodies_atoms (said words).predicates (said words).functions (said words).clauses (said_within words a).clauses_within) q

module _ (words : List ℕ) (a : Accepted words) (dir : List ℕ) (w : Placed words (said words) dir) where
  abbrev pub head_at : {k : ℕ} {c : Clause} → Nth (said words).clauses k c
      → VariablesAt words (get_or dir (clause_head + k) 0) (get_or dir (clause_cells + k) 0)
  head_at {c = c} q =
      record {
        predicates = (said words).predicates;
        functions = (said words).functions;
        few = (said_within words a).predicates_most;
        atom = c.head;
        sound = (each_nth (said_within words a).clauses_within q).head_atom;
        stands = (w.heads q).stands;
      }

  abbrev pub body_at : {j : ℕ} {A : Term} → Nth (bodies (said words).clauses) j A → VariablesAt words (get_or dir (body_start + j) 0) (get_or dir (body_cells + j) 0)
  body_at {A = A} q =
      record {
        predicates = (said words).predicates;
        functions = (said words).functions;
        few = (said_within words a).predicates_most;
        atom = A;
        sound = body_atom words a q;
        stands = w.written q;
      }

  -- an entry from the lists on is written
  pub placed_set : (x v : ℕ) → body_list ≤ x → Placed words (said words) (set dir x v)
  placed_set x v h = placed_kept words a dir (set dir x v) (length-set dir x v) (λ y l. get_or-set_other dir x y v 0 (λ z. omega arith)) w

  -- where the body atoms of clause k begin and end
  pub first_is : (k : ℕ) → k < length (said words).clauses → get_or dir (clause_first + k) 0 ≡ first_of (said words) k
  first_is k h = w.firsts k (omega arith)

  pub first_next_is : (k : ℕ) → k < length (said words).clauses → get_or dir (clause_first + (k + 1)) 0 ≡ first_of (said words) (k + 1)
  first_next_is k h = w.firsts (k + 1) (omega arith)
