-- A shape that is new is put behind the others: its cells stand there already, and its predicate's last link names it.
use Prim.Native.Nat.{ℕ, suc, ◌+◌, ◌-◌, ◌≤◌, ◌<◌}
use native.Mathlib.Numerals.{add-one}
use native.Mathlib.Omega.{arith}
use native.Mathlib.Decide.{ℕ_discrete, dec_lt}
use mathlib.Core.Path.{◌≡◌, sym, ap, ◌∙◌}
use mathlib.Core.Logic.{◌⊎◌, inl, inr, ◌↔◌}
use mathlib.Core.List.{List, [], ◌∷◌, ◌++◌}
use lib.ListN.{length, get_or, set, length-set, length-append}
use lib.Seq.{get_or-set_same, get_or-set_other}
use Rattle.terms.specs.Term.{Term, Occ}
use Rattle.terms.specs.Cells.{variables, Atom}
use Rattle.program.specs.Limits.{max_declared, max_shapes}
use Rattle.program.specs.Program.{Nth}
use Rattle.program.proofs.ShapeLaws.{nth_same}
use Rattle.program.proofs.Nths.{nth_below, nth_last}
use Rattle.directory.specs.Layout.{shape_start, shape_vars, shape_next, predicate_shape, shape_cells, max_shape_cells}
use Rattle.directory.specs.Directory.{StandsAt, predicate_of, Link, ShapeAt}
use Rattle.shaping.specs.Shaped.{Shaped, Slot, Seeking, added_to}
use Rattle.directory.proofs.Parts.{parts_same}
use Rattle.shaping.proofs.Links.{link_grows, link_new, link_none}

module _ (P F : List ℕ) (ss : List Term) (dir : List ℕ) (w : Shaped P F ss dir) (more : length ss < max_shapes)
    (S : Term) (sound : Atom P F S) (q slot : ℕ) (is_q : predicate_of S ≡ q) (seek : Seeking ss S q slot 0) (q-declared : q < max_declared)
    (count vars end cells : ℕ) (count_is : count ≡ length ss) (end_is : end ≡ get_or dir (shape_start + count) 0 + cells) (end_most : end ≤ max_shape_cells)
    (stands : StandsAt dir S (shape_cells + get_or dir (shape_start + count) 0) cells)
    (vars_are : (v : ℕ) → Occ v S ↔ (v < vars)) (vars_few : vars ≤ variables) where
  -- the slot is one of the links
  pub slot_within : (predicate_shape ≤ slot) × (slot < shape_next + length ss)
  slot_within = by seek.slot_is
    where
      by : Slot ss q slot seek.from → (predicate_shape ≤ slot) × (slot < shape_next + length ss)
      by (inl (e, z)) = (omega arith, omega arith)
      by (inr (t, T, e, f, h, r)) = let l = nth_below h in (omega arith, omega arith)

  abbrev pub added : List ℕ
  added = added_to dir slot count vars end

  pub added_size : length added ≡ length dir
  added_size = rw (length-set, length-set, length-set, length-set)

  others_kept : (x : ℕ) → (x ≡ slot → ⊥) → (x ≡ shape_start + (count + 1) → ⊥) → (x ≡ shape_vars + count → ⊥) → (x ≡ shape_next + count → ⊥) → get_or added x 0 ≡ get_or dir x 0
  others_kept x n₁ n₂ n₃ n₄ =
      get_or-set_other (set (set (set dir slot (count + 1)) (shape_start + (count + 1)) end) (shape_vars + count) vars) (shape_next + count) x 0 0 n₄
      ∙ get_or-set_other (set (set dir slot (count + 1)) (shape_start + (count + 1)) end) (shape_vars + count) x vars 0 n₃
      ∙ get_or-set_other (set dir slot (count + 1)) (shape_start + (count + 1)) x end 0 n₂
      ∙ get_or-set_other dir slot x (count + 1) 0 n₁

  -- all that stands before the links, but for the new start and the new variables
  pub start_kept : (x : ℕ) → x ≤ count → get_or added (shape_start + x) 0 ≡ get_or dir (shape_start + x) 0
  start_kept x h = let s = slot_within in others_kept (shape_start + x) (λ z. omega arith) (λ z. omega arith) (λ z. omega arith) (λ z. omega arith)

  pub before_kept : (x : ℕ) → x < shape_start → get_or added x 0 ≡ get_or dir x 0
  before_kept x h = let s = slot_within in others_kept x (λ z. omega arith) (λ z. omega arith) (λ z. omega arith) (λ z. omega arith)

  vars_kept : (x : ℕ) → x < count → get_or added (shape_vars + x) 0 ≡ get_or dir (shape_vars + x) 0
  vars_kept x h = let s = slot_within in others_kept (shape_vars + x) (λ z. omega arith) (λ z. omega arith) (λ z. omega arith) (λ z. omega arith)

  cells_kept : (x : ℕ) → get_or added (shape_cells + x) 0 ≡ get_or dir (shape_cells + x) 0
  cells_kept x = let s = slot_within in others_kept (shape_cells + x) (λ z. omega arith) (λ z. omega arith) (λ z. omega arith) (λ z. omega arith)

  link_kept : (x : ℕ) → predicate_shape ≤ x → x < shape_next + count → (x ≡ slot → ⊥) → get_or added x 0 ≡ get_or dir x 0
  link_kept x h l n = others_kept x n (λ z. omega arith) (λ z. omega arith) (λ z. omega arith)

  new_next : get_or added (shape_next + count) 0 ≡ 0
  new_next =
      get_or-set_same (set (set (set dir slot (count + 1)) (shape_start + (count + 1)) end) (shape_vars + count) vars) (shape_next + count) 0 0
      (rw (length-set, length-set, length-set) (let s = w.size in omega arith))

  new_vars : get_or added (shape_vars + count) 0 ≡ vars
  new_vars =
      get_or-set_other (set (set (set dir slot (count + 1)) (shape_start + (count + 1)) end) (shape_vars + count) vars) (shape_next + count) (shape_vars + count) 0 0 (λ z. omega arith)
      ∙ get_or-set_same (set (set dir slot (count + 1)) (shape_start + (count + 1)) end) (shape_vars + count) vars 0 (rw (length-set, length-set) (let s = w.size in omega arith))

  pub new_end : get_or added (shape_start + (count + 1)) 0 ≡ end
  new_end =
      get_or-set_other (set (set (set dir slot (count + 1)) (shape_start + (count + 1)) end) (shape_vars + count) vars) (shape_next + count) (shape_start + (count + 1)) 0 0 (λ z. omega arith)
      ∙ get_or-set_other (set (set dir slot (count + 1)) (shape_start + (count + 1)) end) (shape_vars + count) (shape_start + (count + 1)) vars 0 (λ z. omega arith)
      ∙ get_or-set_same (set dir slot (count + 1)) (shape_start + (count + 1)) end 0 (rw length-set (let s = w.size in omega arith))

  new_link : get_or added slot 0 ≡ length ss + 1
  new_link =
      let s = slot_within in
      get_or-set_other (set (set (set dir slot (count + 1)) (shape_start + (count + 1)) end) (shape_vars + count) vars) (shape_next + count) slot 0 0 (λ z. omega arith)
      ∙ get_or-set_other (set (set dir slot (count + 1)) (shape_start + (count + 1)) end) (shape_vars + count) slot vars 0 (λ z. omega arith)
      ∙ get_or-set_other (set dir slot (count + 1)) (shape_start + (count + 1)) slot end 0 (λ z. omega arith)
      ∙ get_or-set_same dir slot (count + 1) 0 (let z = w.size in omega arith)
      ∙ ap (λ (n : ℕ). n + 1) count_is

  -- a link of the predicate that is not in the slot names a shape
  named_else : (x : ℕ) (T : Term) → Nth ss x T → predicate_of T ≡ q → (slot ≡ shape_next + x → ⊥) → 0 < get_or dir (shape_next + x) 0
  named_else x T h pr ne = by seek.slot_is
    where
      none : seek.from ≤ x → ⊥
      none l = let m = seek.link_is.none_before x T h pr l in omega arith

      by : Slot ss q slot seek.from → 0 < get_or dir (shape_next + x) 0
      by (inl (e, z)) = absurd (none (omega arith))
      by (inr (t, T', e, f, h', r)) = less (dec_lt x t)
        where
          less : Dec (x < t) → 0 < get_or dir (shape_next + x) 0
          less (yes l) = ((w.shape h).next.none_before t T' h' (r ∙ sym pr) (omega arith)).0
          less (no n) = absurd (at (ℕ_discrete x t))
            where
              at : Dec (x ≡ t) → ⊥
              at (yes same) = ne (e ∙ ap (λ (n : ℕ). shape_next + n) (sym same))
              at (no other) = none (omega arith)

  first_else : (slot ≡ predicate_shape + q → ⊥) → 0 < get_or dir (predicate_shape + q) 0
  first_else ne = by seek.slot_is
    where
      by : Slot ss q slot seek.from → 0 < get_or dir (predicate_shape + q) 0
      by (inl (e, z)) = absurd (ne e)
      by (inr (t, T, e, f, h, r)) = ((w.first q q-declared).none_before t T h r (omega arith)).0

  -- the slot's own link
  slot_link : (x : ℕ) (T : Term) → Nth ss x T → slot ≡ shape_next + x → Link ss q (suc x) 0 × (predicate_of T ≡ q)
  slot_link x T h e = by seek.slot_is
    where
      by : Slot ss q slot seek.from → Link ss q (suc x) 0 × (predicate_of T ≡ q)
      by (inl (e', z)) = absurd (omega arith)
      by (inr (t, T', e', f, h', r)) =
          let same : t ≡ x = omega arith in
          let f' : seek.from ≡ suc x = omega arith in
          let at_x : Nth ss x T' = rw same at h' in
          (rw f' at seek.link_is, ap predicate_of (nth_same h at_x) ∙ r)

  first_link : slot ≡ predicate_shape + q → Link ss q 0 0
  first_link e = by seek.slot_is
    where
      by : Slot ss q slot seek.from → Link ss q 0 0
      by (inl (e', z)) = rw z at seek.link_is
      by (inr (t, T', e', f, h', r)) = absurd (omega arith)

  old_next : {x : ℕ} {T : Term} → Nth ss x T → Dec (slot ≡ shape_next + x) → Link (ss ++ (S ∷ [])) (predicate_of T) (suc x) (get_or added (shape_next + x) 0)
  old_next {x} {T} h (yes e) =
      let (l, pr) = slot_link x T h e in
      let n = nth_below h in
      rw (← e, new_link, pr) (link_new ss S q (suc x) l (omega arith) is_q)
  old_next {x} {T} h (no ne) =
      let n = nth_below h in
      rw (link_kept (shape_next + x) (omega arith) (omega arith) (λ z. ne (sym z)))
      (link_grows ss S (predicate_of T) (suc x) (get_or dir (shape_next + x) 0) (w.shape h).next
      (λ pr. named_else x T h (sym pr ∙ is_q) ne))

  old_first : (r : ℕ) → r < max_declared → Dec (slot ≡ predicate_shape + r) → Link (ss ++ (S ∷ [])) r 0 (get_or added (predicate_shape + r) 0)
  old_first r l (yes e) = by seek.slot_is
    where
      by : Slot ss q slot seek.from → Link (ss ++ (S ∷ [])) r 0 (get_or added (predicate_shape + r) 0)
      by (inl (e', z)) =
          let same : q ≡ r = omega arith in
          rw (← e, new_link, ← same) (link_new ss S q 0 (first_link e') (omega arith) is_q)
      by (inr (t, T', e', f, h', p)) = absurd (omega arith)
  old_first r l (no ne) =
      rw (link_kept (predicate_shape + r) (omega arith) (omega arith) (λ z. ne (sym z)))
      (link_grows ss S r 0 (get_or dir (predicate_shape + r) 0) (w.first r l) (λ pr. some (sym is_q ∙ pr)))
    where
      some : q ≡ r → 0 < get_or dir (predicate_shape + r) 0
      some same = rw same at (first_else (λ z. ne (z ∙ ap (λ (n : ℕ). predicate_shape + n) same)))

  stands_added : (T : Term) (x n : ℕ) → StandsAt dir T (shape_cells + x) n → StandsAt added T (shape_cells + x) n
  stands_added T x n t =
      let f : shape_cells + x + n ≤ length added = rw added_size t.fits in
      record {
        run = parts_same added dir (shape_cells + x) (shape_cells + x) n f t.fits (λ i l. at i) ∙ t.run;
        fits = f;
        short = t.short;
      }
    where
      at : (i : ℕ) → get_or added (shape_cells + x + i) 0 ≡ get_or dir (shape_cells + x + i) 0
      at i = let e : shape_cells + x + i ≡ shape_cells + (x + i) = omega arith in rw e (cells_kept (x + i))

  old_shape : {x : ℕ} {T : Term} → Nth ss x T → ShapeAt (ss ++ (S ∷ [])) added T x
  old_shape {x} {T} h =
      let n = nth_below h in
      let a = w.shape h in
      record {
        stands = rw (start_kept x (omega arith), start_kept (suc x) (omega arith)) (stands_added T _ _ a.stands);
        ordered = rw (start_kept x (omega arith), start_kept (suc x) (omega arith)) a.ordered;
        cells_most = rw (start_kept (suc x) (omega arith)) a.cells_most;
        shape_variables = λ v. rw (vars_kept x (omega arith)) (a.shape_variables v);
        few = rw (vars_kept x (omega arith)) a.few;
        next = old_next h (ℕ_discrete slot (shape_next + x));
      }

  new_end_suc : get_or added (shape_start + suc count) 0 ≡ end
  new_end_suc = ap (λ (n : ℕ). get_or added (shape_start + n) 0) (sym (add-one count)) ∙ new_end

  new_shape : ShapeAt (ss ++ (S ∷ [])) added S count
  new_shape =
      let size : end - get_or dir (shape_start + count) 0 ≡ cells = omega arith in
      record {
        stands = rw (start_kept count (omega arith), new_end_suc, size) (stands_added S _ _ stands);
        ordered = rw (start_kept count (omega arith), new_end_suc) (omega arith);
        cells_most = rw new_end_suc end_most;
        shape_variables = λ v. rw new_vars (vars_are v);
        few = rw new_vars vars_few;
        next = rw new_next (link_none ss S (predicate_of S) (suc count) (omega arith));
      }

  shapes_by : {x : ℕ} {T : Term} → Nth ss x T ⊎ ((x ≡ length ss) × (S ≡ T)) → ShapeAt (ss ++ (S ∷ [])) added T x
  shapes_by (inl h) = old_shape h
  shapes_by (inr (e, t)) = rw (e, ← count_is, ← t) new_shape

  atoms_by : {x : ℕ} {T : Term} → Nth ss x T ⊎ ((x ≡ length ss) × (S ≡ T)) → Atom P F T
  atoms_by (inl h) = w.atom h
  atoms_by (inr (e, t)) = rw t at sound

  pub shape_added : Shaped P F (ss ++ (S ∷ [])) added
  shape_added =
      let e : length (ss ++ (S ∷ [])) ≡ count + 1 = length-append ss (S ∷ []) ∙ ap (λ (n : ℕ). n + 1) (sym count_is) in
      record {
        size = added_size ∙ w.size;
        declared = w.declared;
        many = rw e (omega arith);
        start_zero = start_kept 0 (omega arith) ∙ w.start_zero;
        total = rw (e, new_end) end_most;
        shape = λ h. shapes_by (nth_last ss h);
        atom = λ h. atoms_by (nth_last ss h);
        first = λ r l. old_first r l (ℕ_discrete slot (predicate_shape + r));
      }
