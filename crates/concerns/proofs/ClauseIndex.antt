-- The index of the clauses and the rows that are new, one after the other: what is entered stays, and one more is entered.
use Prim.Native.Nat.{ℕ, suc, ◌+◌, ◌-◌, ◌≤◌, ◌<◌}
use native.Mathlib.Omega.{arith}
use native.Mathlib.Decide.{dec_lt, ℕ_discrete}
use mathlib.Core.Path.{◌≡◌, refl, sym, ap, subst, ◌∙◌}
use mathlib.Core.Logic.{inl, inr}
use mathlib.Core.List.{List}
use lib.ListN.{length, get_or}
use lib.Bits.{bit_or}
use Rattle.terms.specs.Mask.{Has}
use Rattle.terms.proofs.Masks.{has_or}
use Rattle.program.specs.Program.{Nth, Clause, Program}
use Rattle.program.proofs.Nths.{nth_below, below_nth}
use Rattle.directory.specs.Layout.{clause_head, clause_first, clause_count, body_start, body_count}
use Rattle.directory.specs.Directory.{predicate_of}
use Rattle.rows.specs.Rows.{slot_at, mask_at}
use Rattle.table.specs.Rules.{Row}
use Rattle.table.specs.Table.{mask}
use Rattle.table.specs.Keys.{slot_of, Regular, body_index}
use Rattle.steps.specs.Situation.{Setting, Situation, BodyOf}
use Rattle.steps.proofs.Bodies.{first_body, body_there}
use Rattle.concerns.specs.Standing.{Stands}
use Rattle.concerns.specs.Active.{Concerns, Entered, HeadsEntered, BodiesEntered}
use Rattle.concerns.proofs.BodyClauses.{clause_found, clause_begun}
use Rattle.concerns.proofs.ActiveClauses.{head_first, body_first}

-- the clauses below n are entered for their heads, and the body atoms below n
abbrev pub HeadsBelow : Program → List ℕ → ℕ → Type 0
HeadsBelow p set n = (k : ℕ) (c : Clause) → k < n → Nth p.clauses k c → Has (get_or set (predicate_of c.head) 0) k

abbrev pub BodiesBelow : Program → List ℕ → ℕ → Type 0
BodiesBelow p set n = (j : ℕ) (b : BodyOf p j) → j < n → Has (get_or set (predicate_of b.A) 0) b.k

-- past the last body atom of clause k the next clause begins
pub next_begins : (dir : List ℕ) (k j end : ℕ) → end ≡ get_or dir (clause_first + k + 1) 0 → j ≤ end → end ≤ j → j ≡ get_or dir (clause_first + (k + 1)) 0
next_begins dir k j end is below past = let e : clause_first + k + 1 ≡ clause_first + (k + 1) = omega arith in rw (← e) (omega arith)

module _ {words dir : List ℕ} {p : Program} (s : Setting words dir p) where
  pub clause_at_law : (clauses k : ℕ) → clauses ≡ get_or dir clause_count 0 → k < clauses → (c : Clause) × Nth p.clauses k c
  clause_at_law clauses k e l = below_nth p.clauses k (omega (arith, s.directory.clause_count_law))

  pub heads_on : (set set' : List ℕ) (q k : ℕ) → Entered set set' q k → q ≡ get_or words (get_or dir (clause_head + k) 0) 0 → HeadsBelow p set k → HeadsBelow p set' (k + 1)
  heads_on set set' q k one is before k' c l h = at k' h l (ℕ_discrete k' k)
    where
      at : (k' : ℕ) → Nth p.clauses k' c → k' < k + 1 → Dec (k' ≡ k) → Has (get_or set' (predicate_of c.head) 0) k'
      at k' h l (yes e) =
          let f : predicate_of c.head ≡ q = sym (is ∙ head_first s (subst (λ (x : ℕ). Nth p.clauses x c) e h)) in
          rw (f, e) one.entered
      at k' h l (no o) = one.kept (predicate_of c.head) k' (before k' c (omega arith) h)

  pub heads_all : (set : List ℕ) (clauses k : ℕ) → clauses ≡ get_or dir clause_count 0 → clauses ≤ k → HeadsBelow p set k → HeadsEntered p set
  heads_all set clauses k e l below k' c h = below k' c (omega (arith, nth_below h, s.directory.clause_count_law)) h

  -- the body atoms from where clause k begins to where the next does are its own
  module _ (clauses k j : ℕ) (many : clauses ≡ get_or dir clause_count 0) (l : k < clauses) (begun : get_or dir (clause_first + k) 0 ≤ j) (within : j < get_or dir (clause_first + k + 1) 0) where
    pub body_here : BodyOf p j
    body_here =
        let (c, hc) = clause_at_law clauses k many l in
        let e : clause_first + k + 1 ≡ clause_first + suc k = omega arith in
        let w : j < get_or dir (clause_first + suc k) 0 = rw e at within in
        let n = (s.directory.clause hc).first_next in
        let (A, hA) = below_nth c.body (j - get_or dir (clause_first + k) 0) (omega arith) in
        record { k = k; i = j - get_or dir (clause_first + k) 0; c = c; A = A; nth_clause = hc; nth_atom = hA; is = omega (arith, first_body s k (let b = nth_below hc in omega arith)) }

    pub body_own : (b : BodyOf p j) → k ≡ b.k
    body_own b = clause_found s j b k (clause_begun s j b k (let c = s.directory.clause_count_law in omega arith) begun) within

  -- the next clause begins behind it
  pub clause_spans : (clauses k : ℕ) → clauses ≡ get_or dir clause_count 0 → k < clauses → get_or dir (clause_first + k) 0 ≤ get_or dir (clause_first + k + 1) 0
  clause_spans clauses k many l =
      let n = (s.directory.clause (clause_at_law clauses k many l).1).first_next in
      let e : clause_first + k + 1 ≡ clause_first + suc k = omega arith in
      rw e (omega arith)

  pub bodies_on : (set set' : List ℕ) (q k j : ℕ) → Entered set set' q k → q ≡ get_or words (get_or dir (body_start + j) 0) 0 → ((b : BodyOf p j) → k ≡ b.k) → BodiesBelow p set j
      → BodiesBelow p set' (j + 1)
  bodies_on set set' q k j one is own before j' b l = at (ℕ_discrete j' j)
    where
      this : (b : BodyOf p j) → Has (get_or set' (predicate_of b.A) 0) b.k
      this b =
          let f : predicate_of b.A ≡ q = sym (is ∙ body_first s b) in
          let g : b.k ≡ k = sym (own b) in
          rw (f, g) one.entered

      at : Dec (j' ≡ j) → Has (get_or set' (predicate_of b.A) 0) b.k
      at (yes e) = subst (λ (x : ℕ). (b : BodyOf p x) → Has (get_or set' (predicate_of b.A) 0) b.k) (sym e) this b
      at (no o) = one.kept (predicate_of b.A) b.k (before j' b (omega arith))

  pub bodies_all : (set : List ℕ) (clauses k j : ℕ) → clauses ≡ get_or dir clause_count 0 → k ≤ clauses → clauses ≤ k → j ≡ get_or dir (clause_first + k) 0 → BodiesBelow p set j → BodiesEntered p set
  bodies_all set clauses k' j e a b last below k i c A hc hA =
      let f : k' ≡ length p.clauses = omega (arith, s.directory.clause_count_law) in
      let g : j ≡ get_or dir body_count 0 = last ∙ ap (λ (x : ℕ). get_or dir (clause_first + x) 0) f ∙ s.directory.first_last in
      below (body_index p k i) (record { k = k; i = i; c = c; A = A; nth_clause = hc; nth_atom = hA; is = refl }) (omega (arith, (body_there s hc hA).within))

-- the clauses that the rows from `since` on and below r concern are in the set
abbrev pub ActiveBelow : Program → List ℕ → ℕ → ℕ → ℕ → Type 0
ActiveBelow p table since set r =
    (k r' : ℕ) (row : Row ℕ) → since ≤ r' → r' < r → Regular p row → slot_at table r' ≡ slot_of p row → mask_at table r' ≡ mask row → Concerns p k row → Has set k

pub active_on : {words dir table heads : List ℕ} {since rows : ℕ} (w : Situation words dir table heads since rows) (set v r : ℕ)
    → ((z : Stands words dir table r) → z.p ≡ w.p → (k : ℕ) → Concerns z.p k z.row → Has v k) → ActiveBelow w.p table since set r
    → ActiveBelow w.p table since (bit_or set v) (r + 1)
active_on {words} {dir} {table} w set v r here before k r' row f l g e m h = at (dec_lt r' r)
  where
    at : Dec (r' < r) → Has (bit_or set v) k
    at (yes b) = (has_or set v k).1 (inl (before k r' row f b g e m h))
    at (no b) =
        let d : r ≡ r' = omega arith in
        (has_or set v k).1 (inr (here (record { p = w.p; setting = w.setting; row = row; regular = g; slot = rw d e; its_mask = rw d m }) refl k h))
