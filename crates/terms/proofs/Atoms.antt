-- Two whole atoms: the store before the first pair, and what the comparison of their arguments says of the atoms.
use Prim.Native.Nat.{ℕ, zero, suc, ◌+◌, ◌^◌, ◌≤◌, ◌<◌}
use mathlib.Core.Path.{◌≡◌, refl, sym, ap, ap₂, ◌∙◌, fun_ext}
use mathlib.Core.Logic.{◌↔◌}
use mathlib.Core.Bool.{Bool, true, false}
use mathlib.Core.List.{List, [], ◌∷◌, append-nil}
use native.Mathlib.Nat.{add-zero, zero-add}
use native.Mathlib.Decide.{dec_lt}
use native.Mathlib.Omega.{arith}
use lib.ListN.{length, get_or, drop, replicate, get_or-replicate, get_or-eq_default}
use Rattle.terms.specs.Term.{Term, Terms, var, app, Subst, sub, subs, All}
use Rattle.terms.specs.Cells.{enc, encs, Atom, atom_cells, pick, take_terms, Run}
use Rattle.terms.specs.Unifier.{Apart}
use Rattle.terms.specs.Store.{no_place, cells_at, terms_at, bound, unbound}
use Rattle.terms.specs.Unified.{Unified}
use Rattle.terms.specs.Unifying.{most, RightStore, Solves, Comparable, Compared}
use Rattle.terms.proofs.Substs.{sub_agree, sub_var, occs_all}
use Rattle.terms.proofs.Masks.{has_one}
use Rattle.terms.proofs.Pairs.{solution_most_general, unsolved_apart, itself_one_to_one, shifted_one_to_one, itself_shifted_disjoint}
use Rattle.terms.proofs.Standing.{stands_unbound, unbound_itself}
use Rattle.terms.proofs.Standings.{terms_at_run, same_numbers_all}
use Rattle.terms.proofs.Binding.{place_unbound}
use Rattle.terms.proofs.RunVariables.{keepss_below}

-- no variable has a place, and each is alone in its set
abbrev pub no_places : List ℕ
no_places = replicate 32 128

powers : ℕ → ℕ → List ℕ
powers zero k = []
powers (suc n) k = 2 ^ k ∷ powers n (suc k)

power_at : (n k i : ℕ) → i < n → get_or (powers n k) i 0 ≡ 2 ^ (k + i)
unfolding powers
power_at zero k i h = absurd (omega arith)
power_at (suc n) k zero h = ap (λ (j : ℕ). 2 ^ j) (sym (add-zero k))
power_at (suc n) k (suc i) h =
    let e : suc k + i ≡ k + suc i = omega arith in
    power_at n (suc k) i (omega arith) ∙ ap (λ (j : ℕ). 2 ^ j) e

abbrev pub alone : List ℕ
alone =
    1 ∷ 2 ∷ 4 ∷ 8 ∷ 16 ∷ 32 ∷ 64 ∷ 128 ∷ 256 ∷ 512 ∷ 1024 ∷ 2048 ∷ 4096 ∷ 8192 ∷ 16384 ∷ 32768 ∷ 65536 ∷ 131072 ∷ 262144 ∷ 524288
    ∷ 1048576 ∷ 2097152 ∷ 4194304 ∷ 8388608 ∷ 16777216 ∷ 33554432 ∷ 67108864 ∷ 134217728 ∷ 268435456 ∷ 536870912 ∷ 1073741824
    ∷ 2147483648 ∷ []

alone_powers : alone ≡ powers 32 0
unfolding powers
alone_powers = refl

alone_at : (x : ℕ) → x < 32 → get_or alone x 0 ≡ 2 ^ x
alone_at x h = ap (λ (l : List ℕ). get_or l x 0) alone_powers ∙ power_at 32 0 x h ∙ ap (λ (j : ℕ). 2 ^ j) (zero-add x)

pub no_place_at : (x : ℕ) → get_or no_places x no_place ≡ no_place
no_place_at x = go (dec_lt x 32)
  where
    go : Dec (x < 32) → get_or no_places x no_place ≡ no_place
    go (yes h) = get_or-replicate 32 x 128 no_place h
    go (no h) = get_or-eq_default no_places no_place {n = x} (omega arith)

most_zero : most 0 ≡ 1
unfolding most
most_zero = refl

-- at first every variable stands for itself
pub store_at_first : (F a b : List ℕ) → length a ≤ atom_cells → length b ≤ atom_cells → RightStore F a b no_places alone var
store_at_first F a b s t =
    record {
      first_short = s;
      second_short = t;
      all_places = refl;
      all_sets = refl;
      whole = λ x h. absurd (omega (arith, no_place_at x));
      full = record {
        stands = λ x. unbound (place_unbound F a b no_places x (omega (arith, no_place_at x)));
        few = λ x. rw most_zero (omega arith);
      };
      sets_right = λ x z h. rw (alone_at x h) (has_one x z);
    }

-- the atoms' arguments stand behind their predicates
module _ (P F a b : List ℕ) (A B : Term) (ea : a ≡ enc A) (eb : b ≡ enc B) (kA : Atom P F A) (kB : Atom P F B) where
  first_cells : cells_at a b 1 ≡ encs kA.arguments
  first_cells = ap (drop 1) (ea ∙ ap enc kA.is)

  second_cells : cells_at a b 65 ≡ encs kB.arguments
  second_cells = ap (drop 1) (eb ∙ ap enc kB.is)

  pub first_predicate : get_or a 0 0 ≡ kA.predicate
  first_predicate = ap (λ (l : List ℕ). get_or l 0 0) (ea ∙ ap enc kA.is)

  pub second_predicate : get_or b 0 0 ≡ kB.predicate
  second_predicate = ap (λ (l : List ℕ). get_or l 0 0) (eb ∙ ap enc kB.is)

  short_first : length a ≤ atom_cells
  short_first = rw ea kA.short

  short_second : length b ≤ atom_cells
  short_second = rw eb kB.short

  store : RightStore F a b no_places alone var
  store = store_at_first F a b short_first short_second

  module _ (same : get_or a 0 0 ≡ get_or b 0 0) where
    predicates_same : kA.predicate ≡ kB.predicate
    predicates_same = sym first_predicate ∙ same ∙ second_predicate

    first_run : Run F (cells_at a b 1) (get_or P (get_or a 0 0) 0)
    first_run =
        record {
          terms = kA.arguments;
          rest = [];
          cut = first_cells ∙ sym (append-nil (encs kA.arguments));
          keeps = kA.keeps;
          many = kA.arity ∙ ap (λ (p : ℕ). get_or P p 0) (sym first_predicate);
        }

    second_run : Run F (cells_at a b 65) (get_or P (get_or a 0 0) 0)
    second_run =
        record {
          terms = kB.arguments;
          rest = [];
          cut = second_cells ∙ sym (append-nil (encs kB.arguments));
          keeps = kB.keeps;
          many = kB.arity ∙ ap (λ (p : ℕ). get_or P p 0) (sym second_predicate ∙ sym same);
        }

    pub arguments_comparable : Comparable F a b no_places alone 1 65 (get_or P (get_or a 0 0) 0)
    arguments_comparable =
        record { σ = var; store = store; first_run = first_run; second_run = second_run; first_place = omega arith; second_place = omega arith }

    -- the solutions are those that make the atoms equal
    first_terms : take_terms (get_or P (get_or a 0 0) 0) (terms_at F a b 1) ≡ subs kA.arguments (λ v. var (0 + v))
    unfolding first_run
    first_terms = terms_at_run F a b 1 (get_or P (get_or a 0 0) 0) first_run

    second_terms : take_terms (get_or P (get_or a 0 0) 0) (terms_at F a b 65) ≡ subs kB.arguments (λ v. var (16 + v))
    unfolding second_run
    second_terms = terms_at_run F a b 65 (get_or P (get_or a 0 0) 0) second_run

    atoms_equal : (τ : Subst)
        → (subs (take_terms (get_or P (get_or a 0 0) 0) (terms_at F a b 1)) τ ≡ subs (take_terms (get_or P (get_or a 0 0) 0) (terms_at F a b 65)) τ)
        ↔ (sub (sub A (λ v. var v)) τ ≡ sub (sub B (λ v. var (16 + v))) τ)
    atoms_equal τ =
        let f : subs (take_terms (get_or P (get_or a 0 0) 0) (terms_at F a b 1)) τ ≡ subs kA.arguments τ =
        ap (λ (ts : Terms). subs ts τ) (first_terms ∙ same_numbers_all kA.arguments) in
        let g : subs (take_terms (get_or P (get_or a 0 0) 0) (terms_at F a b 65)) τ ≡ subs (subs kB.arguments (λ v. var (16 + v))) τ =
        ap (λ (ts : Terms). subs ts τ) second_terms in
        let l : sub (sub A (λ v. var v)) τ ≡ app kA.predicate (subs kA.arguments τ) =
        ap (λ (t : Term). sub t τ) (sub_var A ∙ kA.is) in
        let r : sub (sub B (λ v. var (16 + v))) τ ≡ app kB.predicate (subs (subs kB.arguments (λ v. var (16 + v))) τ) =
        ap (λ (t : Term). sub (sub t (λ v. var (16 + v))) τ) kB.is in (
          (λ e. l ∙ ap₂ app predicates_same (sym f ∙ e ∙ g) ∙ sym r),
          (λ e. let q : subs kA.arguments τ ≡ subs (subs kB.arguments (λ v. var (16 + v))) τ = arguments_same (sym l ∙ e ∙ r) in f ∙ q ∙ sym g),
        )
      where
        arguments_same : {p q : ℕ} {us ws : Terms} → app p us ≡ app q ws → us ≡ ws
        arguments_same e = cc

    below : All (λ v. v < 16) A
    below = rw kA.is (occs_all (λ v. v < 16) kA.arguments (keepss_below F kA.arguments kA.keeps))

    -- what a comparison of the arguments says of the atoms
    pub atoms_answer : (r : Bool) (places sets : List ℕ) → Compared F a b no_places alone 1 65 (get_or P (get_or a 0 0) 0) r places sets
        → pick r (Unified F a b A B places sets) (Apart A B)
    atoms_answer false places sets o =
        unsolved_apart A B (λ v. v) (λ v. 16 + v) (itself_one_to_one A) (shifted_one_to_one 16 B) (itself_shifted_disjoint 16 A B below)
        (λ τ e. o var store τ (λ x. refl) ((atoms_equal τ).1 e))
    atoms_answer true places sets o =
        let j = o var store in
        let σ = j.after in
        let self : Solves σ σ = λ x.
        sub_agree (σ x) σ var (λ z q. unbound_itself (bound F a b places) z (σ z) (j.store.full.stands z) (stands_unbound (j.store.full.stands x) z q))
        ∙ sub_var (σ x) in
        record {
          σ = σ;
          stands = j.store.full.stands;
          most_general =
              solution_most_general A B (λ v. v) (λ v. 16 + v) (itself_one_to_one A) (shifted_one_to_one 16 B) (itself_shifted_disjoint 16 A B below) σ
              (record {
                solves = (atoms_equal σ).0 ((j.solves σ).0 self).1;
                absorbs = λ τ e. fun_ext ((j.solves τ).1 (λ x. refl, (atoms_equal τ).1 e));
              });
          sets_right =
              record {
                first = λ v h z. j.store.sets_right v z (omega arith);
                second = λ v h z. j.store.sets_right (16 + v) z (omega arith);
              };
          all_places = j.store.all_places;
          whole = j.store.whole;
        }
