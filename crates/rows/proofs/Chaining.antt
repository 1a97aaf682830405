-- Chains: none at first, one row more, the same for tables that agree; and a walk along a chain from its head to its end.
use Prim.Native.Nat.{ℕ, suc, ◌+◌, ◌-◌, ◌≤◌, ◌<◌}
use native.Mathlib.Omega.{arith}
use native.Mathlib.Decide.{dec_lt, ℕ_discrete}
use mathlib.Core.Path.{◌≡◌, sym, ap, ◌∙◌}
use mathlib.Core.List.{List}
use lib.ListN.{length, get_or, set, length-set, replicate, length-replicate, get_or-replicate}
use lib.Seq.{get_or-set_same, get_or-set_other}
use Rattle.rows.specs.Chains.{Latest, Chained, Walked}

-- no rows: every link is 0
pub latest_none : (class : ℕ → ℕ) (c : ℕ) → Latest class c 0 0
latest_none class c = record { within = omega arith; own = λ r e. absurd (omega arith); last = λ q a b e. absurd (omega arith) }

pub chained_none : (class links : ℕ → ℕ) (size : ℕ) → Chained class links (replicate size 0) 0
chained_none class links size = record {
  from_heads = λ c h. let within : c < size = rw (length-replicate {A = ℕ} size 0) at h in rw (get_or-replicate {A = ℕ} size c 0 0 within) (latest_none class c);
  from_rows = λ r h. absurd (omega arith);
}

module _ (class class' : ℕ → ℕ) where
  -- only the classes of the rows below n count
  pub latest_same : (c n link : ℕ) → ((r : ℕ) → r < n → class' r ≡ class r) → Latest class c n link → Latest class' c n link
  latest_same c n link same l = record {
    within = l.within;
    own = λ r e. let w = l.within in same r (omega arith) ∙ l.own r e;
    last = λ q a b e. l.last q a b (sym (same q b) ∙ e);
  }

  pub chained_same : (links links' : ℕ → ℕ) (heads : List ℕ) (n : ℕ) → ((r : ℕ) → r < n → class' r ≡ class r) → ((r : ℕ) → r < n → links' r ≡ links r)
      → Chained class links heads n → Chained class' links' heads n
  chained_same links links' heads n same same-links ch = record {
    from_heads = λ c h. latest_same c n (get_or heads c 0) same (ch.from_heads c h);
    from_rows = λ r h. rw (same r h, same-links r h) (latest_same (class r) r (links r) (λ q l. same q (omega arith)) (ch.from_rows r h));
  }

-- a row of another class changes nothing
latest_passed : (class : ℕ → ℕ) (c n link : ℕ) → (class n ≡ c → ⊥) → Latest class c n link → Latest class c (n + 1) link
latest_passed class c n link other l = record {
  within = let w = l.within in omega arith;
  own = l.own;
  last = λ q a b e. at q a b e (ℕ_discrete q n);
}
  where
    at : (q : ℕ) → link ≤ q → q < n + 1 → class q ≡ c → Dec (q ≡ n) → ⊥
    at q a b e (yes i) = other (sym (ap class i) ∙ e)
    at q a b e (no o) = l.last q a (omega arith) e

latest_own : (class : ℕ → ℕ) (c n : ℕ) → c ≡ class n → Latest class c (n + 1) (n + 1)
latest_own class c n i = record {
  within = omega arith;
  own = λ r e. let s : r ≡ n = omega arith in rw (s, i);
  last = λ q a b e. absurd (omega arith);
}

-- row n joins its class: its link is the old head, and it is the new one
pub chained_more : (class class' links links' : ℕ → ℕ) (heads : List ℕ) (n : ℕ) → ((r : ℕ) → r < n → class' r ≡ class r) → ((r : ℕ) → r < n → links' r ≡ links r)
    → class' n < length heads → links' n ≡ get_or heads (class' n) 0 → Chained class links heads n → Chained class' links' (set heads (class' n) (n + 1)) (n + 1)
chained_more class class' links links' heads n same same-links within link old = record {
  from_heads = λ c h. at c (rw length-set at h) (ℕ_discrete c (class' n));
  from_rows = λ r h. row r h (ℕ_discrete r n);
}
  where
    ch : Chained class' links' heads n
    ch = chained_same class class' links links' heads n same same-links old

    at : (c : ℕ) → c < length heads → Dec (c ≡ class' n) → Latest class' c (n + 1) (get_or (set heads (class' n) (n + 1)) c 0)
    at c h (yes i) = let e : get_or (set heads (class' n) (n + 1)) c 0 ≡ n + 1 = rw i (get_or-set_same heads (class' n) (n + 1) 0 within) in rw e (latest_own class' c n i)
    at c h (no o) = rw (get_or-set_other heads (class' n) c (n + 1) 0 o) (latest_passed class' c n (get_or heads c 0) (λ e. o (sym e)) (ch.from_heads c h))

    row : (r : ℕ) → r < n + 1 → Dec (r ≡ n) → Latest class' (class' r) r (links' r)
    row r h (yes i) = rw (i, link) (ch.from_heads (class' n) within)
    row r h (no o) = ch.from_rows r (omega arith)

-- A walk begins at the head of a chain, where nothing is behind it yet.
pub walk_begins : (class : ℕ → ℕ) (c n link : ℕ) (Done : ℕ → Type 0) → Latest class c n link → Walked class c n link Done
walk_begins class c n link Done l = record { within = l.within; own = l.own; done = λ q a b e. absurd (l.last q a b e) }

-- Once the row at the link is done the walk goes on to that row's own link.
pub walk_goes_on : (class : ℕ → ℕ) (c n link next r : ℕ) (Done : ℕ → Type 0) → suc r ≡ link → Latest class (class r) r next → Done r → Walked class c n link Done
    → Walked class c n next Done
walk_goes_on class c n link next r Done at l here w = record {
  within = let a = l.within in let b = w.within in omega arith;
  own = λ q e. l.own q e ∙ w.own r at;
  done = λ q a b e. step q a b e (dec_lt r q) (ℕ_discrete q r);
}
  where
    step : (q : ℕ) → next ≤ q → q < n → class q ≡ c → Dec (r < q) → Dec (q ≡ r) → Done q
    step q a b e (yes behind) d = w.done q (omega arith) b e
    step q a b e (no o) (yes i) = rw i here
    step q a b e (no o) (no d) = absurd (l.last q a (omega arith) (e ∙ sym (w.own r at)))

-- At link 0 every row of the class is done.
pub walk_ends : (class : ℕ → ℕ) (c n : ℕ) (Done : ℕ → Type 0) → Walked class c n 0 Done → (q : ℕ) → q < n → class q ≡ c → Done q
walk_ends class c n Done w q h e = w.done q (omega arith) h e

-- The next link is nearer to the end: a walk along a chain comes to its end.
pub walk_falls : (class : ℕ → ℕ) (link next r : ℕ) → suc r ≡ link → Latest class (class r) r next → next < link
walk_falls class link next r at l = let w = l.within in omega arith

-- The same along chained rows, with the row at a link named as the code names it.
module _ (class links : ℕ → ℕ) (heads : List ℕ) (n : ℕ) (ch : Chained class links heads n) (c : ℕ) (Done : ℕ → Type 0) where
  pub chain_begins : c < length heads → Walked class c n (get_or heads c 0) Done
  chain_begins h = walk_begins class c n (get_or heads c 0) Done (ch.from_heads c h)

  pub chain_row_below : (link : ℕ) → Walked class c n link Done → 0 < link → link - 1 < n
  chain_row_below link w more = let l = w.within in omega arith

  pub chain_row_class : (link : ℕ) → Walked class c n link Done → 0 < link → class (link - 1) ≡ c
  chain_row_class link w more = w.own (link - 1) (omega arith)

  pub chain_goes_on : (link : ℕ) → Walked class c n link Done → 0 < link → Done (link - 1) → Walked class c n (links (link - 1)) Done
  chain_goes_on link w more here =
      walk_goes_on class c n link (links (link - 1)) (link - 1) Done (omega arith) (ch.from_rows (link - 1) (chain_row_below link w more)) here w

  pub chain_falls : (link : ℕ) → Walked class c n link Done → 0 < link → links (link - 1) < link
  chain_falls link w more = walk_falls class link (links (link - 1)) (link - 1) (omega arith) (ch.from_rows (link - 1) (chain_row_below link w more))

-- A walk goes by the classes of the rows below n, and what is done may be said in other words.
pub walked_same : (class class' : ℕ → ℕ) (c n link : ℕ) (Done Done' : ℕ → Type 0) → ((r : ℕ) → r < n → class' r ≡ class r) → ((q : ℕ) → q < n → Done q → Done' q)
    → Walked class c n link Done → Walked class' c n link Done'
walked_same class class' c n link Done Done' same words w = record {
  within = w.within;
  own = λ r e. let l = w.within in same r (omega arith) ∙ w.own r e;
  done = λ q a b e. words q b (w.done q a b (sym (same q b) ∙ e));
}
