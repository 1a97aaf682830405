-- A body atom under its number: where it stands in the words, its predicate and its arguments there, and that it is an atom of the program.
use Prim.Native.Nat.{ℕ, zero, suc, ◌+◌, ◌-◌, ◌<◌}
use native.Mathlib.Omega.{arith}
use native.Mathlib.Numerals.{add-one}
use mathlib.Core.Path.{◌≡◌, ap, ◌∙◌}
use mathlib.Core.List.{List, ◌∷◌}
use lib.ListN.{length, get_or, take, drop}
use lib.Seq.{drop-cons}
use Rattle.terms.specs.Term.{Term, Terms, app}
use Rattle.terms.specs.Cells.{enc, encs, Atom}
use Rattle.program.specs.Program.{Program}
use Rattle.program.specs.Limits.{max_bodies}
use Rattle.directory.specs.Directory.{BodyAt, StandsAt}
use Rattle.steps.specs.Situation.{Setting, BodyOf}
use Rattle.steps.proofs.Bodies.{body_there, body_few, body_is_atom}

module _ {words dir : List ℕ} {p : Program} (S : Setting words dir p) {j : ℕ} (b : BodyOf p j) where
  pub body_at : BodyAt words p dir b.c b.i b.A j
  body_at = rw b.is (body_there S b.nth_clause b.nth_atom)

  pub body_atom : Atom p.predicates p.functions b.A
  body_atom = body_is_atom S b.nth_clause b.nth_atom

  pub number_below : j < max_bodies
  number_below = rw b.is (body_few S b.nth_clause b.nth_atom)

-- the first word of an atom is its predicate, and its arguments follow
module _ {words : List ℕ} {A : Term} {start cells : ℕ} (s : StandsAt words A start cells) (f : ℕ) (ts : Terms) (is : A ≡ app f ts) where
  run_is : take cells (drop start words) ≡ f ∷ encs ts
  run_is = s.run ∙ ap enc is

  pub some_cells : 0 < cells
  some_cells = at cells run_is
    where
      at : (n : ℕ) → take n (drop start words) ≡ f ∷ encs ts → 0 < n
      at zero e = let z : ◌≡◌ {A = ℕ} 0 1 = cc in absurd (omega arith)
      at (suc n) e = omega arith

  inside : start < length words
  inside = omega (arith, some_cells, s.fits)

  first_and_rest : get_or words start 0 ∷ take (cells - 1) (drop (suc start) words) ≡ f ∷ encs ts
  first_and_rest =
      let e : cells ≡ suc (cells - 1) = omega (arith, some_cells) in
      let d : take (suc (cells - 1)) (get_or words start 0 ∷ drop (suc start) words) ≡ f ∷ encs ts
      = rw (e, drop-cons words start 0 inside) at run_is in
      d

  pub predicate_there : get_or words start 0 ≡ f
  predicate_there = let e = first_and_rest in cc

  pub arguments_there : take (start + cells - (start + 1)) (drop (start + 1) words) ≡ encs ts
  arguments_there =
      let e = first_and_rest in
      let n : start + cells - (start + 1) ≡ cells - 1 = omega arith in
      rw (n, add-one start) (cc)
