-- The clause and the place of a body atom, by where the bodies of the clauses begin; and the body atom of a cont row's slot.
use Prim.Native.Nat.{ℕ, zero, suc, ◌+◌, ◌-◌, ◌≤◌, ◌<◌}
use native.Mathlib.Omega.{arith}
use native.Mathlib.Decide.{dec_lt}
use mathlib.Core.Path.{◌≡◌, refl, sym, ap, ◌∙◌}
use mathlib.Core.Bool.{true, cond}
use mathlib.Core.List.{List}
use lib.Dec.{ltb}
use lib.ListN.{length, take, drop, get_or, length-drop}
use lib.Seq.{get_or-drop, take-length}
use Rattle.std.specs.Prelude.{Option, Some, None}
use Rattle.std.specs.List.{position_or_len}
use Rattle.std.proofs.lemmas.Bool.{lt-ltb, le-ltb}
use Rattle.std.proofs.lemmas.List.Sums.{position_or_len_is}
use Rattle.terms.specs.Term.{Term}
use Rattle.program.specs.Program.{Nth, Clause, Program}
use Rattle.program.specs.Shapes.{shapes}
use Rattle.program.proofs.Nths.{nth_below, below_nth}
use Rattle.directory.specs.Layout.{clause_first, dir_words}
use Rattle.table.specs.Rules.{Row}
use Rattle.table.specs.Keys.{body_index, Regular, regular_call, regular_cont, regular_solution, slot_of, first_cont, first_solution}
use Rattle.table.proofs.Keys.{index_below}
use Rattle.steps.specs.Situation.{Setting, BodyOf}
use Rattle.steps.proofs.Meetings.{setting_within}
use Rattle.steps.proofs.Bodies.{first_body}

module _ {words dir : List ℕ} {p : Program} (s : Setting words dir p) where
  -- the first body atoms of the clauses stand in order
  firsts_rise : (k m : ℕ) → k + m ≤ length p.clauses → get_or dir (clause_first + k) 0 ≤ get_or dir (clause_first + (k + m)) 0
  firsts_rise k zero l = let e : k + 0 ≡ k = omega arith in rw e (omega arith)
  firsts_rise k (suc m) l =
      let (c, hc) = below_nth p.clauses (k + m) (omega arith) in
      let e : clause_first + (k + suc m) ≡ clause_first + suc (k + m) = omega arith in
      let n = (s.directory.clause hc).first_next in
      let f = firsts_rise k m (omega arith) in
      rw e (omega arith)

  module _ (j : ℕ) (b : BodyOf p j) where
    body_first : j ≡ get_or dir (clause_first + b.k) 0 + b.i
    body_first = b.is ∙ ap (λ (x : ℕ). x + b.i) (sym (first_body s b.k (let l = nth_below b.nth_clause in omega arith)))

    -- a clause that ends before the body atom is one before its clause
    pub clause_later : (k : ℕ) → k ≤ b.k → get_or dir (clause_first + k + 1) 0 ≤ j → k + 1 ≤ b.k
    clause_later k l h = at (dec_lt k b.k)
      where
        at : Dec (k < b.k) → k + 1 ≤ b.k
        at (yes d) = omega arith
        at (no d) =
            let e : clause_first + k + 1 ≡ clause_first + suc b.k = omega arith in
            let n = (s.directory.clause b.nth_clause).first_next in
            let h' : get_or dir (clause_first + suc b.k) 0 ≤ j = rw e at h in
            absurd (omega (arith, nth_below b.nth_atom, body_first))

    -- where the bodies end, the first that is behind the body atom is its clause's
    pub clause_position : position_or_len (λ (behind : ℕ). ltb j behind) (drop (clause_first + 1) dir) ≡ b.k
    clause_position =
        let e : clause_first + (b.k + 1) ≡ clause_first + suc b.k = omega arith in
        let n = (s.directory.clause b.nth_clause).first_next in
        let few = (setting_within s).clauses_most in
        position_or_len_is (λ (behind : ℕ). ltb j behind) (drop (clause_first + 1) dir) b.k 0 (omega (arith, length-drop (clause_first + 1) dir, s.directory.size, nth_below b.nth_clause))
        (λ k l.
        let m : k + 1 + (b.k - (k + 1)) ≡ b.k = omega arith in
        let f = firsts_rise (k + 1) (b.k - (k + 1)) (omega (arith, nth_below b.nth_clause)) in
        let g : get_or dir (clause_first + (k + 1)) 0 ≤ get_or dir (clause_first + b.k) 0 = rw m at f in
        let h : clause_first + 1 + k ≡ clause_first + (k + 1) = omega arith in
        le-ltb j _ (rw (get_or-drop (clause_first + 1) dir k 0, h) (omega (arith, body_first))))
        (λ l.
        let h : clause_first + 1 + b.k ≡ clause_first + suc b.k = omega arith in
        lt-ltb j _ (rw (get_or-drop (clause_first + 1) dir b.k 0, h) (omega (arith, nth_below b.nth_atom, body_first))))

    pub clause_there : (r : Option ℕ) (ends : List ℕ) → ends ≡ take (length dir - (clause_first + 1)) (drop (clause_first + 1) dir)
        → r ≡ cond (ltb (position_or_len (λ (behind : ℕ). ltb j behind) ends) (length ends)) (Some (position_or_len (λ (behind : ℕ). ltb j behind) ends)) None → r ≡ Some b.k
    clause_there r ends same is =
        let few = (setting_within s).clauses_most in
        let all : ends ≡ drop (clause_first + 1) dir = same ∙ rw (← length-drop (clause_first + 1) dir) (take-length (drop (clause_first + 1) dir)) in
        let t : ltb b.k (length (drop (clause_first + 1) dir)) ≡ true = lt-ltb _ _ (omega (arith, length-drop (clause_first + 1) dir, s.directory.size, nth_below b.nth_clause)) in
        is ∙ rw (all, clause_position, t) refl

    -- a clause that ends behind the body atom, and is not behind its clause, is its clause
    pub clause_found : (k : ℕ) → k ≤ b.k → j < get_or dir (clause_first + k + 1) 0 → k ≡ b.k
    clause_found k l h = at (dec_lt k b.k)
      where
        at : Dec (k < b.k) → k ≡ b.k
        at (no d) = omega arith
        at (yes d) =
            let m : k + 1 + (b.k - (k + 1)) ≡ b.k = omega arith in
            let f = firsts_rise (k + 1) (b.k - (k + 1)) (omega (arith, nth_below b.nth_clause)) in
            let g : get_or dir (clause_first + (k + 1)) 0 ≤ get_or dir (clause_first + b.k) 0 = rw m at f in
            let e : clause_first + k + 1 ≡ clause_first + (k + 1) = omega arith in
            let h' : j < get_or dir (clause_first + (k + 1)) 0 = rw e at h in
            absurd (omega (arith, body_first))

    -- a clause that begins before it, or at it, is not behind its clause
    pub clause_begun : (k : ℕ) → k ≤ length p.clauses → get_or dir (clause_first + k) 0 ≤ j → k ≤ b.k
    clause_begun k l h = at (dec_lt b.k k)
      where
        at : Dec (b.k < k) → k ≤ b.k
        at (no d) = omega arith
        at (yes d) =
            let m : b.k + 1 + (k - (b.k + 1)) ≡ k = omega arith in
            let f = firsts_rise (b.k + 1) (k - (b.k + 1)) (omega arith) in
            let g : get_or dir (clause_first + (b.k + 1)) 0 ≤ get_or dir (clause_first + k) 0 = rw m at f in
            let e : clause_first + (b.k + 1) ≡ clause_first + suc b.k = omega arith in
            let g' : get_or dir (clause_first + suc b.k) 0 ≤ get_or dir (clause_first + k) 0 = rw e at g in
            let n = (s.directory.clause b.nth_clause).first_next in
            absurd (omega (arith, nth_below b.nth_atom, body_first))

    pub clause_few : (b.k < 64) × (length dir ≡ dir_words)
    clause_few = (omega (arith, nth_below b.nth_clause, (setting_within s).clauses_most), s.directory.size)

    -- the place is what is left
    pub place_left : j - get_or dir (clause_first + b.k) 0 ≡ b.i
    place_left = omega (arith, body_first)

    pub place_few : (j < 1024) × (get_or dir (clause_first + b.k) 0 ≤ j)
    place_few = let d = s.directory in
        (omega (arith, index_below p b.nth_clause b.nth_atom, b.is, d.body_count_law, d.bodies_most), omega (arith, body_first))

  -- slots of call rows and of cont rows stay below the next kind's
  pub shapes_below : {n : ℕ} {S : Term} → Nth (shapes p) n S → n < first_cont
  shapes_below h = let d = s.directory in omega (arith, nth_below h, d.shape_count_law, d.shapes_most)

  pub bodies_below : {k i : ℕ} {c : Clause} {A : Term} → Nth p.clauses k c → Nth c.body i A → body_index p k i < first_cont
  bodies_below hc hA = let d = s.directory in omega (arith, index_below p hc hA, d.body_count_law, d.bodies_most)

  -- the body atom of a cont row
  pub cont_body : (row : Row ℕ) → Regular p row → (slot : ℕ) → slot ≡ slot_of p row → first_cont ≤ slot → slot < first_solution → BodyOf p (slot - first_cont)
  cont_body _ (regular_call hs w l) slot e h h' = absurd (omega (arith, shapes_below hs))
  cont_body _ (regular_cont {k = k} {i = i} {c = c} {A = A} hc hA w l) slot e h h' =
      record { k = k; i = i; c = c; A = A; nth_clause = hc; nth_atom = hA; is = omega arith }
  cont_body _ (regular_solution hs w l) slot e h h' = absurd (omega arith)
