-- The search for a shape among those of its predicate, from link to link.
use Prim.Native.Nat.{ℕ, zero, suc, ◌+◌, ◌-◌, ◌≤◌, ◌<◌}
use native.Mathlib.Omega.{arith}
use native.Mathlib.Decide.{ℕ_discrete, dec_lt}
use mathlib.Core.Path.{◌≡◌, refl, sym, ap, ap₂, ◌∙◌}
use mathlib.Core.Logic.{inl, inr}
use mathlib.Core.List.{List, [], ◌∷◌, ◌++◌, Memᴰ}
use lib.ListN.{length, get_or, take, drop}
use Rattle.std.specs.Prelude.{Ok, Err}
use Rattle.terms.specs.Term.{Term, Terms, same_term, app}
use Rattle.terms.specs.Cells.{enc, encs, Keepss, Atom, terms_of}
use Rattle.terms.proofs.Runs.{terms_encs, join_nil}
use Rattle.program.specs.Limits.{max_declared, max_shapes}
use Rattle.program.specs.Program.{Nth, here, there}
use Rattle.program.specs.Shapes.{place}
use Rattle.program.proofs.ShapeLaws.{nth_same}
use Rattle.program.proofs.Nths.{nth_below}
use Rattle.directory.specs.Layout.{shape_start, shape_next, predicate_shape, shape_cells, max_shape_cells}
use Rattle.directory.specs.Directory.{StandsAt, predicate_of, ShapeAt}
use Rattle.shaping.specs.Shaped.{Sought, Slot, Seeking, FoundAs}
use Rattle.directory.proofs.Cuts.{middle_part}

-- a run determines its atom
encs_injective : (F : List ℕ) (ts us : Terms) → Keepss F ts → Keepss F us → encs ts ≡ encs us → ts ≡ us
encs_injective F ts us k l e =
    sym (join_nil ts) ∙ sym (terms_encs F ts [] k) ∙ ap (λ (cs : List ℕ). terms_of F (cs ++ [])) e ∙ terms_encs F us [] l ∙ join_nil us

pub atom_injective : (P F : List ℕ) (A B : Term) → Atom P F A → Atom P F B → enc A ≡ enc B → A ≡ B
atom_injective P F A B a b e =
    let q : a.predicate ∷ encs a.arguments ≡ b.predicate ∷ encs b.arguments = sym (ap enc a.is) ∙ e ∙ ap enc b.is in
    let h : a.predicate ≡ b.predicate = cc in
    let t : encs a.arguments ≡ encs b.arguments = cc in
    a.is ∙ ap₂ (λ (f : ℕ) (ts : Terms). app f ts) h (encs_injective F a.arguments b.arguments a.keeps b.keeps t) ∙ sym b.is

pub member_nth : {A : Type 0} {a : A} {l : List A} → Memᴰ a l → (n : ℕ) × Nth l n a
member_nth {A = A} {a = a} {l = []} x'' = elim x'' [ ]
member_nth {l = b ∷ l} (Memᴰ.head e) = (0, rw e here)
member_nth {l = b ∷ l} (Memᴰ.tail m) = let (n, h) = member_nth m in (suc n, there h)

-- the place of what stands at n and nowhere before
pub place_first : {A : Type 0} (same : Discrete A) (l : List A) (a : A) (n : ℕ) → Nth l n a → ((r : ℕ) (b : A) → Nth l r b → r < n → b ≡ a → ⊥) → place same a l ≡ n
place_first {A = A} same [] a n x'' f = elim x'' [ ]
place_first same (b ∷ l) a zero here f = by (same a a)
  where
    by : (d : Dec (a ≡ a)) → elim d as (λ _. ℕ) [ yes _ ↦ zero | no _ ↦ suc (place same a l) ] ≡ zero
    by (yes e) = refl
    by (no ne) = absurd (ne refl)
place_first same (b ∷ l) a (suc n) (there h) f = by (place_first same l a n h (λ r d q less e. f (suc r) d (there q) (omega arith) e)) (same a b)
  where
    by : place same a l ≡ n → (d : Dec (a ≡ b)) → elim d as (λ _. ℕ) [ yes _ ↦ zero | no _ ↦ suc (place same a l) ] ≡ suc n
    by below (yes e) = absurd (f 0 b here (omega arith) (sym e))
    by below (no ne) = ap suc below

module _ (dir : List ℕ) (q cells to : ℕ) (a : Sought dir q cells to) where
  abbrev ss : List Term
  ss = a.ss

  pub predicate_declared : q < max_declared
  predicate_declared =
      let e : predicate_of a.S ≡ a.sound.predicate = ap predicate_of a.sound.is in
      let d = a.sound.declared in
      let l = a.shaped.declared in
      let h = a.is_q in
      omega arith

  -- the cells of the shape that is sought
  abbrev sought_cells : List ℕ
  sought_cells = take (to + cells - to) (drop to dir)

  sought_cells_are : sought_cells ≡ enc a.S
  sought_cells_are = middle_part dir to cells ∙ a.stands.run

  pub seek_first : Seeking ss a.S q (predicate_shape + q) (get_or dir (predicate_shape + q) 0)
  seek_first = record { from = 0; slot_is = inl (refl, refl); link_is = a.shaped.first q predicate_declared; passed = λ r R h l. absurd (omega arith) }

  module _ (slot link : ℕ) (w : Seeking ss a.S q slot link) where
    -- where no link is left the shape is new
    pub not_found : link ≡ 0 → FoundAs ss a.S q (Err slot)
    not_found e = ((λ m. missing (member_nth m).0 (member_nth m).1 (dec_lt (member_nth m).0 w.from)), record { from = w.from; slot_is = w.slot_is; link_is = rw e at w.link_is; passed = w.passed })
      where
        missing : (n : ℕ) → Nth ss n a.S → Dec (n < w.from) → ⊥
        missing n h (yes less) = w.passed n a.S h less refl
        missing n h (no more) = let l = w.link_is.none_before n a.S h a.is_q (omega arith) in omega arith

    module _ (some : 0 < link) where
      abbrev s : ℕ
      s = link - 1

      -- the shape that the link names
      abbrev pub other : Term
      other = (w.link_is.named some).1

      pub other_at : Nth ss s other
      other_at = (w.link_is.named some).2

      pub other_in : ShapeAt ss dir other s
      other_in = a.shaped.shape other_at

      next_is : suc s ≡ link
      next_is = omega arith

      pub link_most : link ≤ max_shapes
      link_most = let l = nth_below other_at in let m = a.shaped.many in omega arith

      -- its cells end where those of the next begin
      pub end_most : get_or dir (shape_start + link) 0 ≤ max_shape_cells
      end_most = rw next_is at other_in.cells_most

      pub end_ordered : get_or dir (shape_start + s) 0 ≤ get_or dir (shape_start + link) 0
      end_ordered = rw next_is at other_in.ordered

      pub other_stands : StandsAt dir other (shape_cells + get_or dir (shape_start + s) 0) (get_or dir (shape_start + link) 0 - get_or dir (shape_start + s) 0)
      other_stands = rw next_is at other_in.stands

      -- before it none is the shape that is sought
      none_before : (r : ℕ) (R : Term) → Nth ss r R → r < s → R ≡ a.S → ⊥
      none_before r R h l e = by (dec_lt r w.from)
        where
          by : Dec (r < w.from) → ⊥
          by (yes less) = w.passed r R h less e
          by (no more) =
              let pr : predicate_of R ≡ q = ap predicate_of e ∙ a.is_q in
              let m = w.link_is.none_before r R h pr (omega arith) in
              omega arith

      module _ (from upto : ℕ) (from_is : from ≡ get_or dir (shape_start + s) 0) (upto_is : upto ≡ get_or dir (shape_start + link) 0) where
        -- its cells
        abbrev other_cells : List ℕ
        other_cells = take (shape_cells + upto - (shape_cells + from)) (drop (shape_cells + from) dir)

        other_cells_are : other_cells ≡ enc other
        other_cells_are =
            let e : shape_cells + upto - (shape_cells + from) ≡ get_or dir (shape_start + link) 0 - get_or dir (shape_start + s) 0 = omega arith in
            rw (e, from_is) other_stands.run

        pub unlike : (other_cells ≡ sought_cells → ⊥) → other ≡ a.S → ⊥
        unlike ne e = ne (other_cells_are ∙ ap enc e ∙ sym sought_cells_are)

        pub found : other_cells ≡ sought_cells → FoundAs ss a.S q (Ok s)
        found p =
            let t : enc other ≡ enc a.S = sym other_cells_are ∙ p ∙ sought_cells_are in
            let o : other ≡ a.S = atom_injective a.predicates a.functions other a.S (a.shaped.atom other_at) a.sound t in
            let at-s : Nth ss s a.S = rw o at other_at in
            (nth_below other_at, place_first same_term ss a.S s at-s none_before)

      -- another one is passed
      pub pass : (other ≡ a.S → ⊥) → Seeking ss a.S q (shape_next + s) (get_or dir (shape_next + s) 0)
      pass ne =
          record {
            from = suc s;
            slot_is = inr (s, other, refl, refl, other_at, (w.link_is.named some).3);
            link_is = rw (w.link_is.named some).3 at other_in.next;
            passed = λ r R h l e. by r R h l e (ℕ_discrete r s);
          }
        where
          by : (r : ℕ) (R : Term) → Nth ss r R → r < suc s → R ≡ a.S → Dec (r ≡ s) → ⊥
          by r R h l e (yes same) =
              let at-s : Nth ss s R = rw same at h in
              ne (nth_same other_at at-s ∙ e)
          by r R h l e (no d) = none_before r R h (omega arith) e

      -- the links go forward
      pub slot_grows : slot < shape_next + s
      slot_grows = by w.slot_is
        where
          by : Slot ss q slot w.from → slot < shape_next + s
          by (inl (e, z)) = let d = predicate_declared in omega arith
          by (inr (t, T, e, f, h, r)) = let l = (w.link_is.named some).0 in omega arith

    pub link_few : link ≤ max_shapes
    link_few = by (dec_lt 0 link)
      where
        by : Dec (0 < link) → link ≤ max_shapes
        by (yes some) = link_most some
        by (no none) = omega arith

-- the place of an element in a list that lacks it is the length, and otherwise before it
pub place_missing : {A : Type 0} (same : Discrete A) (l : List A) (a : A) → (Memᴰ a l → ⊥) → place same a l ≡ length l
place_missing same [] a nm = refl
place_missing same (b ∷ l) a nm = by (place_missing same l a (λ m. nm (Memᴰ.tail m))) (same a b)
  where
    by : place same a l ≡ length l → (d : Dec (a ≡ b)) → elim d as (λ _. ℕ) [ yes _ ↦ zero | no _ ↦ suc (place same a l) ] ≡ suc (length l)
    by below (yes e) = absurd (nm (Memᴰ.head e))
    by below (no ne) = ap suc below

pub member_by_place : {A : Type 0} (same : Discrete A) (l : List A) (a : A) → place same a l < length l → Memᴰ a l
member_by_place same [] a h = absurd (omega arith)
member_by_place same (b ∷ l) a h = by (member_by_place same l a) (same a b) h
  where
    by : (place same a l < length l → Memᴰ a l) → (d : Dec (a ≡ b)) → elim d as (λ _. ℕ) [ yes _ ↦ zero | no _ ↦ suc (place same a l) ] < suc (length l) → Memᴰ a (b ∷ l)
    by below (yes e) l' = Memᴰ.head e
    by below (no ne) l' = Memᴰ.tail (below (omega arith))
