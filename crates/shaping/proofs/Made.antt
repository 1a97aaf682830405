-- The directory is made: what the walks left, put together.
use Prim.Native.Nat.{ℕ, suc, ◌+◌, ◌<◌}
use native.Mathlib.Numerals.{add-one}
use native.Mathlib.Omega.{arith}
use mathlib.Core.Path.{◌≡◌, sym, ap, ◌∙◌}
use mathlib.Core.List.{List}
use lib.ListN.{length, get_or}
use lib.Seq.{take-length}
use Rattle.terms.specs.Term.{Term}
use Rattle.program.specs.Program.{Nth, Clause, Program, bodies}
use Rattle.program.specs.Faults.{faults, sound}
use Rattle.program.proofs.Nths.{below_nth, nth_below}
use Rattle.directory.specs.Layout.{body_count, clause_first, body_list}
use Rattle.directory.specs.Directory.{BodyAt, ClauseAt, Directory}
use Rattle.directory.specs.Said.{said, Accepted}
use Rattle.directory.specs.Walked.{Placed}
use Rattle.directory.specs.Lists.{first_of, Lists}
use Rattle.shaping.specs.Named.{ShapesNamed}
use Rattle.directory.proofs.AcceptedWords.{said_is}
use Rattle.directory.proofs.PlacedLaws.{bodies_at_most, placed_kept}
use Rattle.directory.proofs.BodyNumbers.{first_next, body_number, each_number}

module _ (words : List ℕ) (a : Accepted words) (d₁ d₂ d₃ : List ℕ) (w₁ : Placed words (said words) d₁)
    (l : Lists (said words) d₁ d₂ (length (said words).clauses)) (s : ShapesNamed (said words) d₂ d₃) where
  abbrev p : Program
  p = said words

  w : Placed words p d₃
  w = placed_kept words a d₁ d₃ (s.shaped.size ∙ sym w₁.size) (λ x h. s.kept x (omega arith) ∙ l.kept x h) w₁

  clause_at_law : {k : ℕ} {c : Clause} → Nth p.clauses k c → ClauseAt words d₃ c k
  clause_at_law {k} {c} q =
      let h = w.heads q in
      let n = nth_below q in
      let e : first_of p (suc k) ≡ first_of p k + length c.body = ap (λ (x : ℕ). first_of p x) (sym (add-one k)) ∙ first_next p q in
      record {
        stands = h.stands;
        head_variables = h.head_variables;
        few = h.few;
        first_next = w.firsts (suc k) (omega arith) ∙ e ∙ ap (λ (x : ℕ). x + length c.body) (sym (w.firsts k (omega arith)));
      }

  body_at : {k i : ℕ} {c : Clause} {A : Term} → Nth p.clauses k c → Nth c.body i A → BodyAt words p d₃ c i A (get_or d₃ (clause_first + k) 0 + i)
  body_at {k} {i} {c} {A} q h =
      let n = nth_below q in
      let j = body_number p q h in
      let few = bodies_at_most words a in
      let less = nth_below j in
      rw (w.firsts k (omega arith))
      (record {
        within = rw w.body_count_law less;
        stands = w.written j;
        shape = s.numbers j;
        list = rw (s.kept (body_list + (first_of p k + i)) (omega arith)) (l.lists q n i (nth_below h));
      })

  each_body : (j : ℕ) → j < get_or d₃ body_count 0
      → (k : ℕ) × (i : ℕ) × (c : Clause) × (A : Term) × Nth p.clauses k c × Nth c.body i A × (j ≡ get_or d₃ (clause_first + k) 0 + i)
  each_body j h =
      let (A, q) = below_nth (bodies p.clauses) j (rw w.body_count_law at h) in
      let (k, i, c, q₁, q₂, e) = each_number p.clauses j q in
      let n = nth_below q₁ in
      (k, i, c, A, q₁, q₂, e ∙ ap (λ (x : ℕ). x + i) (sym (w.firsts k (omega arith))))

  made : Directory words p d₃
  made =
      let few = bodies_at_most words a in
      record {
        size = w.size;
        words_most = w.words_most;
        functions_in = w.functions_in;
        predicates_are = w.predicates_are;
        functions_are = w.functions_are;
        goal_stands = w.goal_stands;
        goal_ground_law = w.goal_ground_law;
        clause_count_law = w.clause_count_law;
        body_count_law = w.body_count_law;
        bodies_most = rw w.body_count_law few;
        first_zero = w.firsts 0 (omega arith);
        first_last =
            w.firsts (length p.clauses) (omega arith) ∙ ap (λ (cs : List Clause). length (bodies cs)) (take-length p.clauses) ∙ sym w.body_count_law;
        clause = λ q. clause_at_law q;
        body = λ q h. body_at q h;
        each_body = each_body;
        shape_count_law = s.counted;
        shapes_most = rw s.counted s.shaped.many;
        start_zero = s.shaped.start_zero;
        shape = s.shaped.shape;
        first_shape = λ q h. let d = s.shaped.declared in s.shaped.first q (omega arith);
      }

  -- of whichever program the words say
  pub directory_made : (p' : Program) → faults words ≡ sound p' → Directory words p' d₃
  directory_made p' e = rw (said_is words p' e) at made
