-- Cont rows joined with answers, one answer and one row after another: the marks that they make, the rows that these give, and a set of those on a head.
use Prim.Native.Nat.{ℕ, suc, ◌+◌, ◌-◌, ◌≤◌, ◌<◌}
use native.Mathlib.Omega.{arith}
use native.Mathlib.Numerals.{add-one}
use native.Mathlib.Decide.{dec_lt, ℕ_discrete}
use mathlib.Core.Path.{◌≡◌, refl, sym, subst, ◌∙◌}
use mathlib.Core.Logic.{◌⊎◌, inl, inr, ⊎_elim, ◌↔◌}
use mathlib.Core.List.{List, [], ◌∷◌, ◌++◌, Memᴰ}
use lib.ListN.{length, take, drop, get_or, take-append-drop}
use lib.Seq.{take-suc, take-take}
use Rattle.terms.specs.Mask.{Has}
use Rattle.marks.specs.Modes.{Together, KeptTo}
use Rattle.marks.proofs.Modes.{together_unique, kept_unique}
use Rattle.program.specs.Program.{Program}
use Rattle.rows.specs.Rows.{slot_at, mask_at, before_at}
use Rattle.rows.specs.Chains.{Latest}
use Rattle.table.specs.RoundKeys.{Keyed}
use Rattle.steps.specs.Steps.{Given, Grew, Stepped, Emitted}
use Rattle.joining.specs.Joined.{JoinedWith, Due, ContMarks, RowsOf, KeptOf, Among, SlotChain}
use Rattle.steps.proofs.Stepping.{stepped_then, stepped_must}

-- the marks joined with no answer, and with one more
pub joined_none : (M : ℕ) (answers : List ℕ) (N : ℕ) → JoinedWith M (take 0 answers) N → ⊥
joined_none M answers N (q, m, t) = mathlib.Core.List.Memᴰ.not-nil m

module _ (M : ℕ) (answers : List ℕ) (x N : ℕ) (less : x < length answers) (joined : Together M (get_or answers x 0) N) where
  pub joined_more : (N' : ℕ) → JoinedWith M (take (x + 1) answers) N' ↔ (JoinedWith M (take x answers) N' ⊎ (N' ≡ N))
  joined_more N' = (to, from)
    where
      parts : take (x + 1) answers ≡ take x answers ++ (get_or answers x 0 ∷ [])
      parts = rw add-one (take-suc answers x 0 less)

      to : JoinedWith M (take (x + 1) answers) N' → JoinedWith M (take x answers) N' ⊎ (N' ≡ N)
      to (q, m, t) =
          ⊎_elim
          (λ l. inl (q, l, t))
          (λ e. inr (together_unique M (get_or answers x 0) N' N (subst (λ (a : ℕ). Together M a N') (mathlib.Core.List.Memᴰ.eq_of_singleton e) t) joined))
          (mathlib.Core.List.Memᴰ.append_cases (take x answers) (subst (Memᴰ q) parts m))

      from : JoinedWith M (take x answers) N' ⊎ (N' ≡ N) → JoinedWith M (take (x + 1) answers) N'
      from (inl (q, m, t)) = (q, subst (Memᴰ q) (sym parts) (mathlib.Core.List.Memᴰ.append_left _ m), t)
      from (inr e) = (get_or answers x 0, subst (Memᴰ (get_or answers x 0)) (sym parts) (mathlib.Core.List.Memᴰ.append_right (take x answers) (mathlib.Core.List.Memᴰ.head refl)), rw e joined)

-- the first of the answers are among them
pub first_among : (x : ℕ) (answers : List ℕ) → Among (take x answers) answers
first_among x answers q m = subst (Memᴰ q) (take-append-drop x answers) (mathlib.Core.List.Memᴰ.append_left (drop x answers) m)

-- and the first of them among more
pub fewer_among : (fresh all : ℕ) (answers : List ℕ) → fresh ≤ all → Among (take fresh answers) (take all answers)
fewer_among fresh all answers few = subst (λ (l : List ℕ). Among l (take all answers)) (take-take fresh all answers few) (first_among fresh (take all answers))

pub joined_among : (M : ℕ) {fresh all : List ℕ} (N : ℕ) → Among fresh all → JoinedWith M fresh N → JoinedWith M all N
joined_among M N among (q, m, t) = (q, among q m, t)

-- a new row joins all answers, an older one the fresh
pub due_new : (M : ℕ) (fresh all : List ℕ) (since r N : ℕ) → Among fresh all → since ≤ r → Due M fresh all since r N ↔ JoinedWith M all N
due_new M fresh all since r N among new = (⊎_elim (joined_among M N among) (λ d. d.1), λ j. inr (new, j))

pub due_old : (M : ℕ) (fresh all : List ℕ) (since r N : ℕ) → r < since → Due M fresh all since r N ↔ JoinedWith M fresh N
due_old M fresh all since r N old = (⊎_elim (λ j. j) (λ d. absurd (let l = d.0 in omega arith)), inl)

-- one row of the chain more
module _ (table fresh all : List ℕ) (slot rows newest since : ℕ) (chain : SlotChain table slot rows newest) where
  pub marks_begin : (N : ℕ) → ContMarks table fresh all slot rows since newest N → ⊥
  marks_begin N (r, f, l, e, d) = chain.head.last r f l e

  module _ (link : ℕ) (within : link ≤ rows) (own : (r : ℕ) → suc r ≡ link → slot_at table r ≡ slot) (more : 0 < link) where
    latest : Latest (slot_at table) (slot_at table (link - 1)) (link - 1) (before_at table (link - 1))
    latest = chain.links (link - 1) (omega arith)

    pub link_slot : slot_at table (link - 1) ≡ slot
    link_slot = own (link - 1) (omega arith)

    pub next_falls : before_at table (link - 1) < link
    next_falls = let l = latest.within in omega arith

    pub next_own : (r : ℕ) → suc r ≡ before_at table (link - 1) → slot_at table r ≡ slot
    next_own r e = latest.own r e ∙ link_slot

    pub next_marks : (N : ℕ) → ContMarks table fresh all slot rows since (before_at table (link - 1)) N
        ↔ (ContMarks table fresh all slot rows since link N ⊎ Due (mask_at table (link - 1)) fresh all since (link - 1) N)
    next_marks N = (λ (r, f, l, e, d). to r f l e d (dec_lt r link) (ℕ_discrete r (link - 1)), from)
      where
        to : (r : ℕ) → before_at table (link - 1) ≤ r → r < rows → slot_at table r ≡ slot → Due (mask_at table r) fresh all since r N
            → Dec (r < link) → Dec (r ≡ link - 1)
            → ContMarks table fresh all slot rows since link N ⊎ Due (mask_at table (link - 1)) fresh all since (link - 1) N
        to r f l e d (no o) _ = inl (r, omega arith, l, e, d)
        to r f l e d (yes b) (yes i) = inr (rw i at d)
        to r f l e d (yes b) (no o) = absurd (latest.last r f (omega arith) (e ∙ sym link_slot))

        from : ContMarks table fresh all slot rows since link N ⊎ Due (mask_at table (link - 1)) fresh all since (link - 1) N
            → ContMarks table fresh all slot rows since (before_at table (link - 1)) N
        from (inl (r, f, l, e, d)) = (r, omega (arith, next_falls), l, e, d)
        from (inr d) = (link - 1, omega (arith, next_falls), omega arith, link_slot, d)

-- the rows of some marks, and then those of more
module _ (p : Program) (ks : List ℕ) (round room k i : ℕ) where
  pub rows_more : (n n' n'' : ℕ) (table buckets table' buckets' table'' buckets'' : List ℕ) (Some Others Both : ℕ → Type 0)
      → ((N : ℕ) → Both N → Some N ⊎ Others N)
      → Grew (Given p ks) round room n table buckets (RowsOf p k i Some) n' table' buckets' → Stepped (Given p ks) round room n' table' buckets' (RowsOf p k i Others) n'' table'' buckets''
      → Stepped (Given p ks) round room n table buckets (RowsOf p k i Both) n'' table'' buckets''
  rows_more n n' n'' table buckets table' buckets' table'' buckets'' Some Others Both split g s =
      stepped_must (Given p ks) round room n n'' table buckets table'' buckets'' (λ key. RowsOf p k i Some key ⊎ RowsOf p k i Others key) (RowsOf p k i Both)
      (λ key (N, m, e). ⊎_elim (λ a. inl (N, a, e)) (λ b. inr (N, b, e)) (split N m))
      (stepped_then (Given p ks) round room n n' n'' table buckets table' buckets' table'' buckets'' (RowsOf p k i Some) (RowsOf p k i Others) g s)

  pub rows_one : (n n' : ℕ) (table buckets table' buckets' : List ℕ) (N : ℕ) → Stepped (Given p ks) round room n table buckets (Keyed p (Emitted p k i N)) n' table' buckets'
      → Stepped (Given p ks) round room n table buckets (RowsOf p k i (λ N'. N' ≡ N)) n' table' buckets'
  rows_one n n' table buckets table' buckets' N =
      stepped_must (Given p ks) round room n n' table buckets table' buckets' (Keyed p (Emitted p k i N)) (RowsOf p k i (λ N'. N' ≡ N)) (λ key (N', e, m). rw e at m)

-- marks kept to the head's variables, one after another
pub kept_split : (there : ℕ) (Some Others Both : ℕ → Type 0) → ((N : ℕ) → Both N ↔ (Some N ⊎ Others N)) → (q : ℕ) → KeptOf there Both q ↔ (KeptOf there Some q ⊎ KeptOf there Others q)
kept_split there Some Others Both split q = (
  λ (N, m, k). ⊎_elim (λ a. inl (N, a, k)) (λ b. inr (N, b, k)) ((split N).0 m),
  ⊎_elim (λ (N, a, k). (N, (split N).1 (inl a), k)) (λ (N, b, k). (N, (split N).1 (inr b), k)),
)

pub kept_one : (there N K : ℕ) → KeptTo (Has there) N K → (q : ℕ) → (q ≡ K) ↔ KeptOf there (λ N'. N' ≡ N) q
kept_one there N K kept q = (
  λ e. (N, refl, rw e kept),
  λ (N', e, k). kept_unique (Has there) N q K (rw e at k) kept,
)
