-- Links from shape to shape of one predicate, when one more shape is put behind the others.
use Prim.Native.Nat.{ℕ, ◌+◌, ◌-◌, ◌≤◌, ◌<◌}
use native.Mathlib.Omega.{arith}
use mathlib.Core.Path.{◌≡◌, ap, ◌∙◌}
use mathlib.Core.Logic.{◌⊎◌, inl, inr}
use mathlib.Core.List.{List, [], ◌∷◌, ◌++◌}
use lib.ListN.{length, length-append}
use Rattle.terms.specs.Term.{Term}
use Rattle.program.specs.Program.{Nth}
use Rattle.program.proofs.Nths.{nth_below, nth_left, nth_last, last_nth}
use Rattle.directory.specs.Directory.{predicate_of, Link}

module _ (ss : List Term) (S : Term) (q from : ℕ) where
  -- a link stays, unless the new shape is the first that it could name
  pub link_grows : (link : ℕ) → Link ss q from link → (predicate_of S ≡ q → 0 < link) → Link (ss ++ (S ∷ [])) q from link
  link_grows link w some =
      record {
        none_before = λ s R h pr le. by s R pr le (nth_last ss h);
        named = λ l. let (f, T, h, pr) = w.named l in (f, T, nth_left (S ∷ []) h, pr);
      }
    where
      by : (s : ℕ) (R : Term) → predicate_of R ≡ q → from ≤ s → Nth ss s R ⊎ ((s ≡ length ss) × (S ≡ R)) → (0 < link) × (link ≤ s + 1)
      by s R pr le (inl h) = w.none_before s R h pr le
      by s R pr le (inr (e, t)) =
          let l : 0 < link = some (ap predicate_of t ∙ pr) in
          let n = nth_below (w.named l).2 in
          (l, omega arith)

  -- a link that names none names the new shape
  pub link_new : Link ss q from 0 → from ≤ length ss → predicate_of S ≡ q → Link (ss ++ (S ∷ [])) q from (length ss + 1)
  link_new w le pr =
      let e : length ss + 1 - 1 ≡ length ss = omega arith in
      record {
        none_before = λ s R h pr' le'. by s R pr' le' (nth_last ss h);
        named = λ l. (omega arith, S, rw e (last_nth ss S), pr);
      }
    where
      by : (s : ℕ) (R : Term) → predicate_of R ≡ q → from ≤ s → Nth ss s R ⊎ ((s ≡ length ss) × (S ≡ R)) → (0 < length ss + 1) × (length ss + 1 ≤ s + 1)
      by s R pr' le' (inl h) = let l = w.none_before s R h pr' le' in absurd (omega arith)
      by s R pr' le' (inr (e, t)) = (omega arith, omega arith)

  -- behind the last there is none
  pub link_none : length ss < from → Link (ss ++ (S ∷ [])) q from 0
  link_none more =
      record {
        none_before = λ s R h pr le. let l = nth_below h in absurd (omega (arith, length-append ss (S ∷ [])));
        named = λ l. absurd (omega arith);
      }

-- of no shapes there is none
pub link_empty : (q from : ℕ) → Link [] q from 0
link_empty q from = record { none_before = λ s R h pr le. let l = nth_below h in absurd (omega arith); named = λ l. absurd (omega arith) }
