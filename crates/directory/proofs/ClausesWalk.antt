-- The walk over the clauses: one clause after another is written down.
use Prim.Native.Nat.{ℕ, zero, suc, ◌+◌, ◌*◌, ◌≤◌, ◌<◌}
use native.Mathlib.Numerals.{add-one}
use native.Mathlib.Omega.{arith}
use native.Mathlib.Decide.{ℕ_discrete}
use mathlib.Core.Path.{◌≡◌, refl, sym, ap, ◌∙◌}
use mathlib.Core.Logic.{◌⊎◌, inl, inr}
use mathlib.Core.List.{List, [], ◌∷◌, ◌++◌, append_assoc, append-nil}
use lib.ListN.{length, get_or, set, take, drop, length-set, length-append}
use lib.Seq.{get_or-set_other}
use Rattle.terms.specs.Term.{Term}
use Rattle.program.specs.Limits.{max_declared, max_body, max_bodies}
use Rattle.terms.specs.Cells.{enc}
use Rattle.program.specs.Program.{Nth, Clause, bodies}
use Rattle.program.specs.Within.{Each, more, encode_atoms, encode_clauses, WithinClause}
use Rattle.program.proofs.ShapeLaws.{nth_same}
use Rattle.program.proofs.Nths.{below_nth, nth_append, nth_below}
use Rattle.directory.specs.Layout.{clause_first, dir_words}
use Rattle.directory.specs.Walked.{ClauseWritten, ClausesWritten, HeadIn, BodyIn}
use Rattle.directory.specs.From.{ClauseFrom, ClausesFrom}
use Rattle.directory.proofs.Cuts.{nth_drop, nth_take, each_nth}

pub bodies_append : (l m : List Clause) → bodies (l ++ m) ≡ bodies l ++ bodies m
bodies_append [] m = refl
bodies_append (c ∷ l) m = ap (λ (ts : List Term). c.body ++ ts) (bodies_append l m) ∙ sym (append_assoc c.body (bodies l) (bodies m))

-- the body atoms of one clause more
pub bodies_next : {cs : List Clause} {k : ℕ} {c : Clause} → Nth cs k c → bodies (take (suc k) cs) ≡ bodies (take k cs) ++ c.body
bodies_next {cs} {k} {c} h =
    ap bodies (nth_take h) ∙ bodies_append (take k cs) (c ∷ []) ∙ ap (λ (ts : List Term). bodies (take k cs) ++ ts) (append-nil c.body)

-- "a body length m (0 to 16)"
pub bodies_most : (P F : List ℕ) (cs : List Clause) (k : ℕ) → Each (WithinClause P F) cs → length (bodies (take k cs)) ≤ max_body * k
bodies_most P F cs zero e = omega arith
bodies_most P F [] (suc k) e = omega arith
bodies_most P F (c ∷ cs) (suc k) (more w e) =
    let h = bodies_most P F cs k e in omega (arith, length-append c.body (bodies (take k cs)), w.body)

module _ (words : List ℕ) (from : ℕ) (predicates functions : List ℕ) (n : ℕ) (a : ClausesFrom words from predicates functions n) (before : List ℕ)
    (whole : length before ≡ dir_words) where
  -- nothing is written but the first number
  pub no_clauses : from ≤ length words → get_or before clause_first 0 ≡ 0 → ClausesWritten words a.clauses a.rest before before 0 from
  no_clauses h e =
      record {
        size = refl;
        to_come = a.cut;
        within = h;
        heads = λ q l. absurd (omega arith);
        firsts = λ x l. let z : x ≡ 0 = omega arith in rw z e;
        written = λ q. let l = nth_below q in absurd (omega arith);
        kept = λ x l. refl;
      }

  module _ (dir : List ℕ) (k at : ℕ) (w : ClausesWritten words a.clauses a.rest before dir k at) (less : k < n) where
    abbrev next_of : (c : Clause) × Nth a.clauses k c
    next_of = below_nth a.clauses k (let e = a.many in omega arith)

    abbrev c : Clause
    c = next_of.0

    -- the clause that comes next
    abbrev pub next_clause : ClauseFrom words at predicates functions
    next_clause =
        record {
          clause = c;
          rest = encode_clauses (drop (suc k) a.clauses) ++ a.rest;
          cut =
              w.to_come
              ∙ ap (λ (cs : List Clause). encode_clauses cs ++ a.rest) (nth_drop next_of.1)
              ∙ ap (λ (ws : List ℕ). length c.body ∷ ws)
              (append_assoc (enc c.head) (encode_atoms c.body ++ encode_clauses (drop (suc k) a.clauses)) a.rest
              ∙ ap (λ (ws : List ℕ). enc c.head ++ ws) (append_assoc (encode_atoms c.body) (encode_clauses (drop (suc k) a.clauses)) a.rest));
          within = each_nth a.within next_of.1;
        }

    pub first_room : n ≤ max_declared → get_or dir (clause_first + k) 0 + max_body ≤ max_bodies
    first_room most = rw (w.firsts k (omega arith)) (omega (arith, bodies_most predicates functions a.clauses k a.within))

    module _ (dir' : List ℕ) (at' : ℕ) (one : ClauseWritten words c next_clause.rest dir dir' k at') where
      heads_by : {x : ℕ} {d : Clause} → Nth a.clauses x d → x < k + 1 → Dec (x ≡ k) → HeadIn words dir' d x
      heads_by {x} {d} q l (yes same) =
          let at-k : Nth a.clauses k d = rw same at q in
          let e : c ≡ d = nth_same next_of.1 at-k in
          rw (same, ← e) one.head
      heads_by {x} {d} q l (no other) =
          let h = w.heads q (omega arith) in
          record {
            stands = rw (one.heads_kept x (omega arith), one.cells_kept x (omega arith)) h.stands;
            head_variables = λ v. rw (one.variables_kept x (omega arith)) (h.head_variables v);
            few = rw (one.variables_kept x (omega arith)) h.few;
          }

      firsts_by : (x : ℕ) → x ≤ k + 1 → Dec (x ≡ k + 1) → get_or dir' (clause_first + x) 0 ≡ length (bodies (take x a.clauses))
      firsts_by x l (yes same) =
          rw (same, add-one k, bodies_next next_of.1, length-append)
          (rw (← add-one k) (one.first_next ∙ ap (λ (m : ℕ). m + length c.body) (w.firsts k (omega arith))))
      firsts_by x l (no other) = one.firsts_kept x (omega arith) ∙ w.firsts x (omega arith)

      written_by : {x : ℕ} {A : Term} → Nth (bodies (take k a.clauses)) x A ⊎ ((y : ℕ) × (x ≡ length (bodies (take k a.clauses)) + y) × Nth c.body y A)
          → BodyIn words dir' A x
      written_by {x} (inl q) =
          let l = nth_below q in
          let e = w.firsts k (omega arith) in
          rw (one.starts_kept x (omega arith), one.body_cells_kept x (omega arith)) (w.written q)
      written_by (inr (y, e, q)) = rw (e, ← w.firsts k (omega arith)) (one.written q)

      pub one_clause : ClausesWritten words a.clauses a.rest before dir' (k + 1) at'
      one_clause =
          record {
            size = one.size ∙ w.size;
            to_come = rw (add-one k) one.to_come;
            within = one.within;
            heads = λ {x} q l. heads_by q l (ℕ_discrete x k);
            firsts = λ x l. firsts_by x l (ℕ_discrete x (k + 1));
            written = λ q. written_by (nth_append (bodies (take k a.clauses)) c.body (rw (add-one k, bodies_next next_of.1) at q));
            kept = λ x l. one.kept x l ∙ w.kept x l;
          }

-- the first number is written before the others
pub first_set : (words : List ℕ) (cs : List Clause) (rest before dir : List ℕ) (k at : ℕ)
    → ClausesWritten words cs rest (set before clause_first 0) dir k at → ClausesWritten words cs rest before dir k at
first_set words cs rest before dir k at w =
    record {
      size = w.size ∙ length-set before clause_first 0;
      to_come = w.to_come;
      within = w.within;
      heads = w.heads;
      firsts = w.firsts;
      written = w.written;
      kept = λ x l. w.kept x l ∙ get_or-set_other before clause_first x 0 0 (λ q. omega arith);
    }
