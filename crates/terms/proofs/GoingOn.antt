-- The ways on in a comparison of terms at two places: what a call needs, that it weighs less, and what its outcome says.
use Prim.Native.Nat.{ℕ, suc, ◌+◌, ◌≤◌, ◌<◌}
use mathlib.Core.Path.{◌≡◌, refl, sym, ap, subst, ◌∙◌}
use mathlib.Core.Logic.{◌⊎◌, inl, inr}
use mathlib.Core.Bool.{Bool, true, false}
use mathlib.Core.List.{List, append-nil}
use native.Mathlib.Omega.{arith}
use lib.ListN.{length, get_or}
use Rattle.terms.specs.Term.{Term, Terms, var, app, nil, cons, Subst, sub, subs}
use Rattle.terms.specs.Cells.{enc, encs, atom_cells, take_terms, Run}
use Rattle.terms.specs.Walk.{cells_of}
use Rattle.terms.specs.Store.{cells_at, terms_at, first_term, bound}
use Rattle.terms.specs.Unifying.{base_of, RightStore, Outcome, Followed, Bindable, Comparable, Compared, free, look_at}
use Rattle.terms.specs.declared.unifier.Look.TheVariants.{Unbound, Bound, Function}
use Rattle.terms.proofs.Runs.{run_terms}
use Rattle.terms.proofs.Steps.{run_within}
use Rattle.terms.proofs.Standings.{Next, next_term, terms_at_run}
use Rattle.terms.proofs.Bound.{renumbered_cells_all, short_at}
use Rattle.terms.proofs.Joining.{bound_same, outcome_for, outcome_same, outcome_then, outcome_parted}
use Rattle.terms.proofs.Weight.{weight, lighter_bound, lighter_bound_second, lighter_arguments, lighter_first, lighter_others, lighter_fewer}
use Rattle.terms.specs.declared.unifier.Look.{Look}
use Rattle.terms.proofs.Comparing.{Means, looked_as, place_past}

-- what a comparison weighs
abbrev pub load : List ℕ → List ℕ → List ℕ → List ℕ → ℕ → ℕ → ℕ → ℕ
load F a b places s t n = weight places (bound F a b places) (take_terms n (terms_at F a b s)) (take_terms n (terms_at F a b t))

pub one_same : {u w : Term} {us ws : Terms} → cons u us ≡ cons w ws → u ≡ w
one_same e = cc

-- the terms at a place have no more cells than an atom
pub short_terms : (F a b places sets : List ℕ) (σ : Subst) (p n : ℕ) → RightStore F a b places sets σ → Run F (cells_at a b p) n
    → length (encs (take_terms n (terms_at F a b p))) ≤ atom_cells
short_terms F a b places sets σ p n K r =
    let e : length (encs (take_terms n (terms_at F a b p))) ≡ cells_of F (cells_at a b p) n =
    ap (λ (us : Terms). length (encs us)) (terms_at_run F a b p n r)
    ∙ renumbered_cells_all r.terms (λ v. base_of p + v)
    ∙ ap (λ (us : Terms). length (encs us)) (sym (run_terms F (cells_at a b p) n r)) in
    omega (arith, run_within F (cells_at a b p) n r, short_at a b p K.first_short K.second_short)

pub first_alone : (F a b places sets : List ℕ) (σ : Subst) (p : ℕ) → RightStore F a b places sets σ → Run F (cells_at a b p) 1
    → take_terms 1 (terms_at F a b p) ≡ cons (first_term (terms_at F a b p)) nil
first_alone F a b places sets σ p K r = (next_term F a b p 0 K.first_short r).first_alone

pub short_first : (F a b places sets : List ℕ) (σ : Subst) (p : ℕ) → RightStore F a b places sets σ → Run F (cells_at a b p) 1
    → length (enc (first_term (terms_at F a b p))) ≤ atom_cells
short_first F a b places sets σ p K r =
    let h = short_terms F a b places sets σ p 1 K r in
    let e : length (encs (cons (first_term (terms_at F a b p)) nil)) ≤ atom_cells = rw (first_alone F a b places sets σ p K r) at h in
    rw append-nil at e

module _ {F a b P S : List ℕ} {s t : ℕ} (R : Comparable F a b P S s t 1) where
  -- what is found at the two places
  pub first_found : (r l : Look) → r ≡ look_at a b P s → r ≡ l → Means F a b P s l
  first_found r l e f = looked_as F a b P S R.σ s R.store R.first_run r l e f

  pub second_found : (r l : Look) → r ≡ look_at a b P t → r ≡ l → Means F a b P t l
  second_found r l e f = looked_as F a b P S R.σ t R.store R.second_run r l e f

  K : RightStore F a b P S R.σ
  K = R.store

  es : take_terms 1 (terms_at F a b s) ≡ cons (first_term (terms_at F a b s)) nil
  es = first_alone F a b P S R.σ s R.store R.first_run

  et : take_terms 1 (terms_at F a b t) ≡ cons (first_term (terms_at F a b t)) nil
  et = first_alone F a b P S R.σ t R.store R.second_run

  -- the first term is a bound variable: on with what it is bound to
  module _ (p : ℕ) (M : Means F a b P s (Bound p)) where
    ep : take_terms 1 (terms_at F a b p) ≡ cons (first_term (terms_at F a b p)) nil
    ep = first_alone F a b P S R.σ p R.store M.3

    pub follow_first : Comparable F a b P S p t 1
    follow_first =
        record { σ = R.σ; store = R.store; first_run = M.3; second_run = R.second_run; first_place = M.4; second_place = R.second_place }

    pub follow_first_lighter : load F a b P p t 1 < load F a b P s t 1
    follow_first_lighter =
        rw (ep, es, M.1)
        (lighter_bound F a b P S R.σ R.store M.0 (first_term (terms_at F a b p)) _ M.2 (short_first F a b P S R.σ p R.store M.3))

    pub follow_first_outcome : (r : Bool) (P' S' : List ℕ) → Compared F a b P S p t 1 r P' S' → Compared F a b P S s t 1 r P' S'
    follow_first_outcome r P' S' =
        outcome_for F a b P S _ _ _ _ r P' S'
        (λ σ K' τ h.
        let q : subs (take_terms 1 (terms_at F a b s)) τ ≡ subs (take_terms 1 (terms_at F a b p)) τ =
        rw (es, ep, M.1) (ap (λ (u : Term). cons u nil) (bound_same (bound F a b P) σ _ K'.full M.0 _ M.2 τ h)) in
        (λ e. q ∙ e, λ e. sym q ∙ e))

  -- the second term is a bound variable
  module _ (p : ℕ) (M : Means F a b P t (Bound p)) where
    eq : take_terms 1 (terms_at F a b p) ≡ cons (first_term (terms_at F a b p)) nil
    eq = first_alone F a b P S R.σ p R.store M.3

    pub follow_second : Comparable F a b P S s p 1
    follow_second =
        record { σ = R.σ; store = R.store; first_run = R.first_run; second_run = M.3; first_place = R.first_place; second_place = M.4 }

    pub follow_second_lighter : load F a b P s p 1 < load F a b P s t 1
    follow_second_lighter =
        rw (eq, et, M.1)
        (lighter_bound_second F a b P S R.σ R.store M.0 (first_term (terms_at F a b p)) _ M.2 (short_first F a b P S R.σ p R.store M.3))

    pub follow_second_outcome : (r : Bool) (P' S' : List ℕ) → Compared F a b P S s p 1 r P' S' → Compared F a b P S s t 1 r P' S'
    follow_second_outcome r P' S' =
        outcome_for F a b P S _ _ _ _ r P' S'
        (λ σ K' τ h.
        let q : subs (take_terms 1 (terms_at F a b t)) τ ≡ subs (take_terms 1 (terms_at F a b p)) τ =
        rw (et, eq, M.1) (ap (λ (u : Term). cons u nil) (bound_same (bound F a b P) σ _ K'.full M.0 _ M.2 τ h)) in
        (λ e. e ∙ sym q, λ e. e ∙ q))

  -- an unbound variable first
  module _ (x : ℕ) (M : Means F a b P s (Unbound x)) (way : Followed (bound F a b P) x (first_term (terms_at F a b t))) where
    pub bind_first : Bindable F a b P S x t
    bind_first =
        record { σ = R.σ; store = R.store; small = M.2; unbound_yet = M.1; run = R.second_run; is_place = R.second_place; way = way }

    pub bind_first_outcome : (r : Bool) (P' S' : List ℕ)
        → Outcome F a b P S (cons (var x) nil) (cons (first_term (terms_at F a b t)) nil) r P' S' → Compared F a b P S s t 1 r P' S'
    bind_first_outcome r P' S' o = rw (es, et, M.0) o

  -- a function first, an unbound variable second
  module _ (x : ℕ) (M : Means F a b P t (Unbound x)) (way : Followed (bound F a b P) x (first_term (terms_at F a b s))) where
    pub bind_second : Bindable F a b P S x s
    bind_second =
        record { σ = R.σ; store = R.store; small = M.2; unbound_yet = M.1; run = R.first_run; is_place = R.first_place; way = way }

    pub bind_second_outcome : (r : Bool) (P' S' : List ℕ)
        → Outcome F a b P S (cons (var x) nil) (cons (first_term (terms_at F a b s)) nil) r P' S' → Compared F a b P S s t 1 r P' S'
    bind_second_outcome r P' S' o =
        outcome_for F a b P S _ _ _ _ r P' S' (λ σ K' τ h. rw (es, et, M.0) (λ e. sym e, λ e. sym e)) o

  -- one variable on both sides
  pub same_outcome : (x : ℕ) → Means F a b P s (Unbound x) → Means F a b P t (Unbound x) → Compared F a b P S s t 1 true P S
  same_outcome x M N = outcome_same F a b P S _ _ (λ σ K' τ h. rw (es, et, M.0, N.0) refl)

  -- two functions
  module _ (f g : ℕ) (M : Means F a b P s (Function f)) (N : Means F a b P t (Function g)) where
    pub differ_outcome : (f ≡ g → ⊥) → (P' S' : List ℕ) → Compared F a b P S s t 1 false P' S'
    differ_outcome n P' S' σ K' τ h e =
        let q : cons (sub (first_term (terms_at F a b s)) τ) nil ≡ cons (sub (first_term (terms_at F a b t)) τ) nil = rw (es, et) at e in
        let w : app f (subs (take_terms (get_or F f 0) (terms_at F a b (s + 1))) τ) ≡ app g (subs (take_terms (get_or F g 0) (terms_at F a b (t + 1))) τ) =
        rw (M.0, N.0) at (one_same q) in
        n (cc)

  module _ (f : ℕ) (M : Means F a b P s (Function f)) (N : Means F a b P t (Function f)) where
    pub arguments : Comparable F a b P S (s + 1) (t + 1) (get_or F f 0)
    arguments =
        record { σ = R.σ; store = R.store; first_run = M.2; second_run = N.2; first_place = M.3; second_place = N.3 }

    short_arguments : (p : ℕ) → Means F a b P p (Function f) → Run F (cells_at a b p) 1
        → length (encs (take_terms (get_or F f 0) (terms_at F a b (p + 1)))) < atom_cells
    short_arguments p O r = rw O.0 at (short_first F a b P S R.σ p R.store r)

    pub arguments_lighter : suc (load F a b P (s + 1) (t + 1) (get_or F f 0)) < load F a b P s t 1
    arguments_lighter =
        rw (es, et, M.0, N.0)
        (lighter_arguments F a b P S R.σ R.store f f _ _ (short_arguments s M R.first_run) (short_arguments t N R.second_run))

    pub arguments_outcome : (r : Bool) (P' S' : List ℕ) → Compared F a b P S (s + 1) (t + 1) (get_or F f 0) r P' S' → Compared F a b P S s t 1 r P' S'
    arguments_outcome r P' S' =
        outcome_for F a b P S _ _ _ _ r P' S'
        (λ σ K' τ h. rw (es, et, M.0, N.0) (λ e. ap (λ (us : Terms). cons (app f us) nil) e, λ e. cc))

module _ {F a b P S : List ℕ} {s t n : ℕ} (R : Comparable F a b P S s t n) where
  -- no terms
  pub none_outcome : n ≡ 0 → Compared F a b P S s t n true P S
  none_outcome e = rw e (outcome_same F a b P S nil nil (λ σ K' τ h. refl))

  module _ (m : ℕ) (e : n ≡ suc m) where
    first : Next F a b s m
    first = next_term F a b s m R.store.first_short (rw e at R.first_run)

    second : Next F a b t m
    second = next_term F a b t m R.store.first_short (rw e at R.second_run)

    pub first_pair : Comparable F a b P S s t 1
    first_pair =
        record { σ = R.σ; store = R.store; first_run = first.alone; second_run = second.alone; first_place = R.first_place; second_place = R.second_place }

    short_first_all : length (encs (cons (first_term (terms_at F a b s)) (take_terms m (terms_at F a b (s + cells_of F (cells_at a b s) 1))))) ≤ atom_cells
    short_first_all =
        subst (λ (us : Terms). length (encs us) ≤ atom_cells) first.together
        (subst (λ (k : ℕ). length (encs (take_terms k (terms_at F a b s))) ≤ atom_cells) e (short_terms F a b P S R.σ s n R.store R.first_run))

    short_second_all : length (encs (cons (first_term (terms_at F a b t)) (take_terms m (terms_at F a b (t + cells_of F (cells_at a b t) 1))))) ≤ atom_cells
    short_second_all =
        subst (λ (us : Terms). length (encs us) ≤ atom_cells) second.together
        (subst (λ (k : ℕ). length (encs (take_terms k (terms_at F a b t))) ≤ atom_cells) e (short_terms F a b P S R.σ t n R.store R.second_run))

    pub first_pair_lighter : load F a b P s t 1 ≤ load F a b P s t n
    first_pair_lighter =
        rw (e, first.together, second.together, first.first_alone, second.first_alone)
        (lighter_first F a b P S R.σ R.store
        (first_term (terms_at F a b s)) (first_term (terms_at F a b t))
        (take_terms m (terms_at F a b (s + cells_of F (cells_at a b s) 1))) (take_terms m (terms_at F a b (t + cells_of F (cells_at a b t) 1)))
        short_first_all short_second_all)

    pub first_parted : (P' S' P'' S'' : List ℕ) → Compared F a b P S s t 1 false P' S' → Compared F a b P S s t n false P'' S''
    first_parted P' S' P'' S'' o =
        rw (e, first.together, second.together)
        (outcome_parted F a b P S
        (first_term (terms_at F a b s)) (first_term (terms_at F a b t))
        (take_terms m (terms_at F a b (s + cells_of F (cells_at a b s) 1))) (take_terms m (terms_at F a b (t + cells_of F (cells_at a b t) 1)))
        P' S' P'' S'' (rw (first.first_alone, second.first_alone) at o))

    -- the first pair is joined: on with the others
    module _ (P' S' : List ℕ) (o : Compared F a b P S s t 1 true P' S') where
      pub others : Comparable F a b P' S' (s + cells_of F (cells_at a b s) 1) (t + cells_of F (cells_at a b t) 1) m
      others =
          record {
            σ = (o R.σ R.store).after;
            store = (o R.σ R.store).store;
            first_run = first.others;
            second_run = second.others;
            first_place = place_past F a b s R.store.first_short R.store.second_short first.alone;
            second_place = place_past F a b t R.store.first_short R.store.second_short second.alone;
          }

      pub others_lighter : load F a b P' (s + cells_of F (cells_at a b s) 1) (t + cells_of F (cells_at a b t) 1) m < load F a b P s t n
      others_lighter = go (o R.σ R.store).fewer
        where
          go : (free P' < free P) ⊎ ((P' ≡ P) × (S' ≡ S))
              → load F a b P' (s + cells_of F (cells_at a b s) 1) (t + cells_of F (cells_at a b t) 1) m < load F a b P s t n
          go (inl h) =
              lighter_fewer F a b P S P' S' R.σ others.σ R.store others.store h
              (take_terms n (terms_at F a b s)) (take_terms n (terms_at F a b t))
              (take_terms m (terms_at F a b (s + cells_of F (cells_at a b s) 1))) (take_terms m (terms_at F a b (t + cells_of F (cells_at a b t) 1)))
              (short_terms F a b P' S' others.σ (s + cells_of F (cells_at a b s) 1) m others.store first.others)
              (short_terms F a b P' S' others.σ (t + cells_of F (cells_at a b t) 1) m others.store second.others)
          go (inr h) =
              rw (h.0, e, first.together, second.together)
              (lighter_others F a b P S R.σ R.store
              (first_term (terms_at F a b s)) (first_term (terms_at F a b t))
              (take_terms m (terms_at F a b (s + cells_of F (cells_at a b s) 1))) (take_terms m (terms_at F a b (t + cells_of F (cells_at a b t) 1)))
              short_first_all short_second_all)

      pub others_outcome : (r : Bool) (P'' S'' : List ℕ)
          → Compared F a b P' S' (s + cells_of F (cells_at a b s) 1) (t + cells_of F (cells_at a b t) 1) m r P'' S'' → Compared F a b P S s t n r P'' S''
      others_outcome r P'' S'' o' =
          rw (e, first.together, second.together)
          (outcome_then F a b P S
          (first_term (terms_at F a b s)) (first_term (terms_at F a b t))
          (take_terms m (terms_at F a b (s + cells_of F (cells_at a b s) 1))) (take_terms m (terms_at F a b (t + cells_of F (cells_at a b t) 1)))
          P' S' r P'' S'' (rw (first.first_alone, second.first_alone) at o) o')

-- the comparison of n terms at two places has come to other places, with m of them left: what is found there is the outcome of all
pub record Going (F a b P S : List ℕ) (s t n : ℕ) (P' S' : List ℕ) (s' t' m : ℕ) : Type 0 where
  pub now : Comparable F a b P' S' s' t' m
  pub lighter : load F a b P' s' t' m ≤ load F a b P s t n
  pub outcome : (r : Bool) (P'' S'' : List ℕ) → Compared F a b P' S' s' t' m r P'' S'' → Compared F a b P S s t n r P'' S''

module _ {F a b P S : List ℕ} {s t n : ℕ} {P' S' : List ℕ} {s' t' m : ℕ} (G : Going F a b P S s t n P' S' s' t' m) where
  pub going_all : m ≡ 0 → Compared F a b P S s t n true P' S'
  going_all e = G.outcome true P' S' (none_outcome G.now e)

  module _ (k : ℕ) (e : m ≡ suc k) where
    pub going_pair : Comparable F a b P' S' s' t' 1
    going_pair = first_pair G.now k e

    pub going_lighter : load F a b P' s' t' 1 ≤ load F a b P s t n
    going_lighter = omega (arith, first_pair_lighter G.now k e, G.lighter)

    pub going_parted : (P₁ S₁ P₂ S₂ : List ℕ) → Compared F a b P' S' s' t' 1 false P₁ S₁ → Compared F a b P S s t n false P₂ S₂
    going_parted P₁ S₁ P₂ S₂ o = G.outcome false P₂ S₂ (first_parted G.now k e P₁ S₁ P₂ S₂ o)

    pub going_more : (P₁ S₁ : List ℕ) → Compared F a b P' S' s' t' 1 true P₁ S₁
        → Going F a b P S s t n P₁ S₁ (s' + cells_of F (cells_at a b s') 1) (t' + cells_of F (cells_at a b t') 1) k
    going_more P₁ S₁ o =
        record {
          now = others G.now k e P₁ S₁ o;
          lighter = omega (arith, others_lighter G.now k e P₁ S₁ o, G.lighter);
          outcome = λ r P'' S'' o'. G.outcome r P'' S'' (others_outcome G.now k e P₁ S₁ o r P'' S'' o');
        }
