-- The masks of rows: kept to a list, and taken to a shape's numbering by a list of the atom's variables in the shape's order.
use Prim.Native.Nat.{ℕ, ◌+◌, ◌^◌, ◌<◌}
use native.Mathlib.Omega.{arith}
use native.Mathlib.Decide.{dec_lt}
use mathlib.Core.Path.{◌≡◌, refl, sym, subst, ◌∙◌, ap}
use mathlib.Core.Logic.{◌⊎◌, inl, inr, ⊎_elim}
use mathlib.Core.List.{List}
use lib.ListN.{get_or, length, take}
use Rattle.std.proofs.lemmas.List.{get_or-take, length-take}
use lib.Bits.{bit_or}
use Rattle.terms.specs.Term.{Term, Occ}
use Rattle.terms.specs.Mask.{Has, Marks}
use Rattle.terms.proofs.Masks.{has_none, has_or, has_one}
use Rattle.marks.specs.Modes.{KeptTo, Renumbered, Reordered, Restored, InOrder}

-- what stands in the list's first part
pub in_first : (order : List ℕ) (count k : ℕ) → k < length (take count order) → get_or (take count order) k 0 ≡ get_or order k 0
in_first order count k l = get_or-take count order k 0 (omega (arith, l, length-take count order))

-- a list's mask keeps what the list keeps
pub kept_by_list : {P : ℕ → Type 0} (list M R : ℕ) → Marks P list → KeptTo (Has list) M R → KeptTo P M R
kept_by_list list M R p k v = (
  λ b. let h = (k v).0 b in ((p v).0 h.0, h.1),
  λ h. (k v).1 ((p v).1 h.0, h.1),
)

-- marks put in the list's order are marks in the shape's numbering
pub reordered_renumbered : {A : Term} {f : ℕ → ℕ} (order : List ℕ) (count M R : ℕ) → InOrder A f order count → Reordered order count M R → Renumbered A f M R
reordered_renumbered {f = f} order count M R o r k = (
  λ b. let h = (r k).0 b in let p = o.present k h.0 in (get_or order k 0, p.0, p.1, h.1),
  λ h.
      let p = o.placed h.0 h.1 in
      let l : k < count = rw h.2 at p.0 in
      let e : get_or order k 0 ≡ h.0 = rw h.2 at p.1 in
      (r k).1 (l, rw e h.3),
)

pub renumbered_reordered : {A : Term} {f : ℕ → ℕ} (order : List ℕ) (count M R : ℕ) → InOrder A f order count → Renumbered A f M R → Reordered order count M R
renumbered_reordered {f = f} order count M R o n k = (
  λ b.
      let h = (n k).0 b in
      let p = o.placed h.0 h.1 in
      (subst (λ (x : ℕ). x < count) h.2 p.0, subst (Has M) (sym p.1 ∙ ap (λ (x : ℕ). get_or order x 0) h.2) h.3),
  λ h. let p = o.present k h.0 in (n k).1 (get_or order k 0, p.0, p.1, h.1),
)

pub reordered_none : (order : List ℕ) (M : ℕ) → Reordered order 0 M 0
reordered_none order M k = (λ b. absurd (has_none k b), λ h. absurd (let l = h.0 in omega arith))

at_or_before : (k j : ℕ) → j < k + 1 → Dec (j < k) → (j < k) ⊎ (j ≡ k)
at_or_before k j l (yes b) = inl b
at_or_before k j l (no n) = inr (omega arith)

-- one variable of the shape more
module _ (order : List ℕ) (k M R : ℕ) (r : Reordered order k M R) where
  pub reordered_marked : Has M (get_or order k 0) → Reordered order (k + 1) M (bit_or R (2 ^ k))
  reordered_marked m j = (
    λ b. ⊎_elim
        (λ h. let e = (r j).0 h in (let l = e.0 in omega arith, e.1))
        (λ h. let q = (has_one k j).0 h in (omega arith, rw q m))
        ((has_or R (2 ^ k) j).0 b),
    λ h. (has_or R (2 ^ k) j).1 (
        ⊎_elim (λ l. inl ((r j).1 (l, h.1))) (λ q. inr ((has_one k j).1 q)) (at_or_before k j h.0 (dec_lt j k))),
  )

  pub reordered_unmarked : (Has M (get_or order k 0) → ⊥) → Reordered order (k + 1) M R
  reordered_unmarked n j = (
    λ b. let e = (r j).0 b in (let l = e.0 in omega arith, e.1),
    λ h. ⊎_elim (λ l. (r j).1 (l, h.1)) (λ q. absurd (n (rw q at h.1))) (at_or_before k j h.0 (dec_lt j k)),
  )

-- marks in the shape's numbering, back in the atom's
pub renumbered_restored : {A : Term} {f : ℕ → ℕ} (order : List ℕ) (count M R : ℕ) → InOrder A f order count → ((v : ℕ) → Has M v → Occ v A) → Renumbered A f M R
    → Restored order count R M
renumbered_restored {f = f} order count M R o own n v = (
  λ b. let p = o.placed v (own v b) in (f v, p.0, p.1, (n (f v)).1 (v, own v b, refl, b)),
  λ h.
      let m = (n h.0).0 h.3 in
      subst (Has M) (sym (o.placed m.0 m.1).1 ∙ ap (λ (x : ℕ). get_or order x 0) m.2 ∙ h.2) m.3,
)

pub restored_none : (order : List ℕ) (M : ℕ) → Restored order 0 M 0
restored_none order M v = (λ b. absurd (has_none v b), λ h. absurd (let l = h.1 in omega arith))

module _ (order : List ℕ) (k M R : ℕ) (r : Restored order k M R) where
  pub restored_marked : Has M k → Restored order (k + 1) M (bit_or R (2 ^ get_or order k 0))
  restored_marked m v = (
    λ b. ⊎_elim
        (λ h. let e = (r v).0 h in (e.0, let l = e.1 in omega arith, e.2, e.3))
        (λ h. (k, omega arith, sym ((has_one (get_or order k 0) v).0 h), m))
        ((has_or R (2 ^ get_or order k 0) v).0 b),
    λ h. (has_or R (2 ^ get_or order k 0) v).1 (
        ⊎_elim (λ l. inl ((r v).1 (h.0, l, h.2, h.3)))
        (λ q. inr ((has_one (get_or order k 0) v).1 (sym h.2 ∙ ap (λ (x : ℕ). get_or order x 0) q)))
        (at_or_before k h.0 h.1 (dec_lt h.0 k))),
  )

  pub restored_unmarked : (Has M k → ⊥) → Restored order (k + 1) M R
  restored_unmarked n v = (
    λ b. let e = (r v).0 b in (e.0, let l = e.1 in omega arith, e.2, e.3),
    λ h. ⊎_elim (λ l. (r v).1 (h.0, l, h.2, h.3)) (λ q. absurd (n (subst (Has M) q h.3))) (at_or_before k h.0 h.1 (dec_lt h.0 k)),
  )
