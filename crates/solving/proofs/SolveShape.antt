-- Rule 3 for one shape: the marks in the set pass to it one after another, each mask that passes once, while the rows that were there stay.
use Prim.Native.Nat.{ℕ, ◌+◌, ◌*◌, ◌/◌, ◌%◌, ◌≤◌, ◌<◌}
use native.Mathlib.Omega.{arith}
use native.Mathlib.Decide.{dec_lt, ℕ_discrete}
use mathlib.Core.Path.{◌≡◌, sym, subst}
use mathlib.Core.Bool.{Bool}
use mathlib.Core.Logic.{◌⊎◌, inl, inr, ⊎_elim}
use mathlib.Core.List.{List, []}
use lib.ListN.{length, get_or}
use lib.Dec.{T}
use Rattle.terms.specs.Cells.{variables}
use Rattle.terms.specs.Mask.{Marks}
use Rattle.terms.proofs.Masks.{has_none}
use Rattle.marks.specs.Modes.{modes}
use Rattle.marks.specs.Passing.{MarkedIn, VariablesOf}
use Rattle.marks.proofs.PassedOn.{second_to_first}
use Rattle.program.specs.Program.{Program}
use Rattle.rows.specs.Rows.{keys_of}
use Rattle.rows.specs.MaskSet.{InSet}
use Rattle.rows.specs.Store.{SameRows}
use Rattle.rows.proofs.MaskSets.{was_there}
use Rattle.table.specs.Rules.{Row, call}
use Rattle.table.specs.Keys.{row_key}
use Rattle.table.specs.NewRows.{NewReached}
use Rattle.table.specs.RoundKeys.{Keyed}
use Rattle.steps.specs.Steps.{Given, RowsIn, Writable, Grew, Stepped}
use Rattle.steps.specs.Heads.{HeadMark, FoundOn}
use Rattle.solving.specs.Solving.{ToShape, PassesTo, SolvedBy, SolvedBelow, SetKeys, CallsAsked, ShapeSets, FoundFor}
use Rattle.solving.specs.SolvedSets.{PutFor, passed_mark, NoneSolved, FirstPassed}
use Rattle.steps.proofs.Stepping.{keys_stay, grew_none, grew_must, stepped_then, stepped_within, stepped_past}
use Rattle.steps.proofs.SlotRows.{chains_stay}
use Rattle.solving.proofs.SolveLaws.{mask_within, passes_variables, solved_alike}

-- marks that result on a head result with any table that has the same rows
pub head_stays : (p : Program) (table₀ table : List ℕ) (old n k i q : ℕ) → old ≤ n → SameRows table₀ table n → HeadMark p table₀ 0 old k i q → HeadMark p table 0 old k i q
head_stays p table₀ table old n k i q l same h =
    record {
      c = h.c;
      nth_clause = h.nth_clause;
      N = h.N;
      reached = subst (λ (ks : List ℕ). NewReached modes p (RowsIn p []) (RowsIn p ks) k i h.N) (sym (keys_stay table₀ table n old l same)) h.reached;
      kept = h.kept;
    }

pub found_stays : (p : Program) (table₀ table : List ℕ) (old n k i : ℕ) (found : List ℕ) (marks : ℕ) → old ≤ n → SameRows table₀ table n → FoundOn p table₀ old k i found marks → FoundOn p table old k i found marks
found_stays p table₀ table old n k i found marks l same f =
    record { few = f.few; within = f.within; below = f.below; result = λ q h. head_stays p table₀ table old n k i q l same (f.result q h) }

module _ {table₀ : List ℕ} {since old newest slot : ℕ} (w : ToShape table₀ since old newest slot) (table : List ℕ) (n : ℕ) (behind : old ≤ n)
    (same : SameRows table₀ table n) (l : length table ≡ length table₀) where
  abbrev pub to_stays : ToShape table since old newest slot
  to_stays =
      record {
        words = w.words;
        dir = w.dir;
        heads = w.heads;
        p = w.p;
        setting = w.setting;
        chains = chains_stay w.p table₀ w.heads since old w.chains table n behind same l;
        k = w.k;
        c = w.c;
        nth_clause = w.nth_clause;
        s = w.s;
        S = w.S;
        nth_shape = w.nth_shape;
        slot_is = w.slot_is;
        newest_is = w.newest_is;
      }

  pub passes_stay : (mask q : ℕ) → PassesTo w mask q → PassesTo to_stays mask q
  passes_stay mask q h = record { marks = head_stays w.p table₀ table old n w.k _ q behind same h.marks; passed = h.passed }

  pub solved_stays : (from q : ℕ) (row : Row ℕ) → from ≤ old → SolvedBy w from q row → SolvedBy to_stays from q row
  solved_stays from q row l h =
      record {
        C = h.C;
        there = (
          subst (λ (ks : List ℕ). RowsIn w.p ks (call w.s h.C)) (sym (keys_stay table₀ table n old behind same)) h.there.0,
          λ o. h.there.1 (subst (λ (ks : List ℕ). RowsIn w.p ks (call w.s h.C)) (keys_stay table₀ table n from (omega arith) same) o),
        );
        R = h.R;
        passed = h.passed;
        is = h.is;
      }

-- marks in the set pass on the sets of the unifier
pub set_passes : {table sets found : List ℕ} {since old newest slot here there marks : ℕ} (w : ToShape table since old newest slot) → ShapeSets w.S w.c.head sets here there
    → FoundFor w found marks → (q q' q'' mask : ℕ) → q' ≡ q → InSet found q' → q'' ≡ q → Marks (MarkedIn sets variables q'' there 0 0 here) mask → PassesTo w mask q
set_passes w unified found q q' q'' mask e in_set_law e' marked =
    record {
      marks = found.result q (rw e at in_set_law);
      passed =
          second_to_first 0 q mask unified.unifying.most_general unified.unifying.sets_right unified.shape_variables unified.head_variables
          (rw e' at marked);
    }

-- N was passed to the shape by marks in the set below q
abbrev pub PassedBelow : {table : List ℕ} {since old newest slot : ℕ} → ToShape table since old newest slot → List ℕ → ℕ → ℕ → Type 0
PassedBelow w found q N = (m : ℕ) × (m < q) × InSet found m × PassesTo w N m

-- the keys of the solution rows for the marks in the set below q, and of those whose masks are in `solved`
abbrev Due : {table : List ℕ} {since old newest slot : ℕ} → ToShape table since old newest slot → ℕ → List ℕ → ℕ → List ℕ → ℕ → Type 0
Due {slot = slot} w from found q solved key = Keyed w.p (SolvedBelow w from found q) key ⊎ SetKeys w.S slot solved key

-- the marks below q were passed to the shape, and those in `solved` with the mark of variable 15, where the shape has no such variable, are among what was passed
pub record Through {table₀ : List ℕ} {since old newest slot : ℕ} (w : ToShape table₀ since old newest slot) (here from : ℕ) (found : List ℕ) (round room n : ℕ) (buckets₀ : List ℕ)
    (q rows : ℕ) (table buckets solved : List ℕ) : Type 0 where
  pub grew : Grew (Given w.p (keys_of table₀ old)) round room n table₀ buckets₀ (Due w from found q solved) rows table buckets
  pub passed_before : here < passed_mark → (N : ℕ) → N ≤ here → InSet solved (passed_mark + N) → PassedBelow w found q N

module _ {table₀ : List ℕ} {since old newest slot : ℕ} (w : ToShape table₀ since old newest slot) (here : ℕ) (all : VariablesOf w.S here) (from : ℕ) (found : List ℕ)
    (round room n : ℕ) (buckets₀ : List ℕ) where
  abbrev At : ℕ → ℕ → List ℕ → List ℕ → List ℕ → Type 0
  At q rows table buckets solved = Through w here from found round room n buckets₀ q rows table buckets solved

  abbrev ks : List ℕ
  ks = keys_of table₀ old

  pub through_begins : (solved : List ℕ) → Writable table₀ buckets₀ n room → NoneSolved solved here → At 0 n table₀ buckets₀ solved
  through_begins solved writable none =
      record {
        grew = grew_none (Given w.p ks) round room n table₀ buckets₀ _ writable
            (λ key. ⊎_elim (λ k. absurd (let b = k.1.1 in omega arith)) (λ (N, of, in_set_law, e). absurd ((none N (mask_within N all of)).0 in_set_law)));
        passed_before = λ l N few h. absurd ((none N few).1 l h);
      }

  module _ (q rows : ℕ) (table buckets solved : List ℕ) (t : At q rows table buckets solved) where
    -- none is in the set from q on and below r
    pub through_none : (r : ℕ) → q ≤ r → ((m : ℕ) → q ≤ m → m < r → InSet found m → ⊥) → At r rows table buckets solved
    through_none r l none =
        record {
          grew =
              grew_must (Given w.p ks) round room n rows table₀ buckets₀ table buckets (Due w from found q solved) _
              (λ key. ⊎_elim (λ (row, (m, b, i, by), e). inl (at key row m b i by e (dec_lt m q))) inr) t.grew;
          passed_before = λ fewer N few h. let (m, b, i, passes) = t.passed_before fewer N few h in (m, omega arith, i, passes);
        }
      where
        at : (key : ℕ) (row : Row ℕ) (m : ℕ) → m < r → InSet found m → SolvedBy w from m row → key ≡ row_key w.p row → Dec (m < q) → Keyed w.p (SolvedBelow w from found q) key
        at key row m b i by e (yes d) = (row, (m, d, i, by), e)
        at key row m b i by e (no d) = absurd (none m (omega arith) b i)

    -- q is not in the set
    pub through_past : (InSet found q → ⊥) → At (q + 1) rows table buckets solved
    through_past out = through_none (q + 1) (omega arith) (λ m a b i. let e : m ≡ q = omega arith in out (rw e at i))

    -- all that are asked for
    pub through_ends : (marks : ℕ) → marks ≤ q → Stepped (Given w.p ks) round room n table₀ buckets₀ (Keyed w.p (SolvedBelow w from found marks)) rows table buckets
    through_ends marks l =
        inl (grew_must (Given w.p ks) round room n rows table₀ buckets₀ table buckets (Due w from found q solved) _
        (λ key (row, (m, b, i, by), e). inl (row, (m, omega arith, i, by), e)) t.grew)

    module _ (mask : ℕ) (first : Bool) (solved' : List ℕ) (in_set_law : InSet found q) (passes : PassesTo w mask q) (fp : FirstPassed solved solved' here mask first) where
      -- what passes is of the shape's variables
      mask_few : mask ≤ here
      mask_few = mask_within mask all (passes_variables w mask q passes)

      passed_more : here < passed_mark → (N : ℕ) → N ≤ here → InSet solved' (passed_mark + N) → PassedBelow w found (q + 1) N
      passed_more l N few h =
          ⊎_elim (λ o. let (m, b, i, passes') = t.passed_before l N few o in (m, omega arith, i, passes'))
          (λ e. let same : mask ≡ N = omega arith in (q, omega arith, in_set_law, subst (λ (M : ℕ). PassesTo w M q) same passes))
          (((fp.asked l (omega (arith, mask_few))).members (passed_mark + N)).0 h)

      -- no mask of the shape's variables was put into the set
      pub keys_before : (key : ℕ) → SetKeys w.S slot solved' key → SetKeys w.S slot solved key
      keys_before key (N, of, h, e) = (N, of, at (dec_lt here passed_mark), e)
        where
          at : Dec (here < passed_mark) → InSet solved N
          at (yes l) =
              ⊎_elim (λ o. o) (λ d. absurd (let few = mask_within N all of in omega (arith, few, d)))
              (((fp.asked l (omega (arith, mask_few))).members N).0 h)
          at (no l) = subst (λ (set : List ℕ). InSet set N) (fp.not_asked (omega arith)).1 h

      -- the same was passed before, and gave the same rows
      pub through_again : (T first → ⊥) → At (q + 1) rows table buckets solved'
      through_again not_first =
          record {
            grew =
                grew_must (Given w.p ks) round room n rows table₀ buckets₀ table buckets (Due w from found q solved) _
                (λ key. ⊎_elim (λ (row, (m, b, i, by), e). inl (at key row m b i by e (ℕ_discrete m q))) (λ k. inr (keys_before key k))) t.grew;
            passed_before = passed_more;
          }
        where
          was : Dec (here < passed_mark) → PassedBelow w found q mask
          was (yes l) =
              t.passed_before l mask mask_few (was_there solved solved' (passed_mark + mask) first (fp.asked l (omega (arith, mask_few))) not_first)
          was (no l) = absurd (not_first (rw (fp.not_asked (omega arith)).0 tt))

          before : PassedBelow w found q mask
          before = was (dec_lt here passed_mark)

          at : (key : ℕ) (row : Row ℕ) (m : ℕ) → m < q + 1 → InSet found m → SolvedBy w from m row → key ≡ row_key w.p row → Dec (m ≡ q) → Keyed w.p (SolvedBelow w from found q) key
          at key row m b i by e (yes d) =
              (row, (before.0, before.1, before.2, solved_alike w mask q passes before.0 from row before.3 (rw d at by)), e)
          at key row m b i by e (no d) = (row, (m, omega arith, i, by), e)

      module _ (behind : old ≤ n) where
        abbrev pub calls_asked : CallsAsked table solved' since old newest slot mask rows
        calls_asked =
            record {
              to = to_stays w table n behind t.grew.same_rows t.grew.same_length;
              q = q;
              passes = passes_stay w table n behind t.grew.same_rows t.grew.same_length mask q passes;
              solved_there = λ key k. t.grew.all key (inr (keys_before key k));
            }

        abbrev Now : List ℕ → ℕ → Type 0
        Now solved'' key = Keyed w.p (SolvedBy calls_asked.to from q) key ⊎ SetKeys w.S slot solved'' key

        module _ (r : ℕ) (table' buckets' solved'' : List ℕ) (s : Stepped (Given w.p (keys_of table old)) round room rows table buckets (Now solved'') r table' buckets') where
          abbrev Both : ℕ → Type 0
          Both key = Due w from found q solved key ⊎ Now solved'' key

          both : Stepped (Given w.p ks) round room n table₀ buckets₀ Both r table' buckets'
          both =
              stepped_then (Given w.p ks) round room n rows r table₀ buckets₀ table buckets table' buckets' (Due w from found q solved) (Now solved'') t.grew
              (subst (λ (ks' : List ℕ). Stepped (Given w.p ks') round room rows table buckets (Now solved'') r table' buckets')
              (keys_stay table₀ table n old behind t.grew.same_rows) s)

          pub through_full : {Must : ℕ → Type 0} → room < r → Stepped (Given w.p ks) round room n table₀ buckets₀ Must r table' buckets'
          through_full past = inr (stepped_past (Given w.p ks) round room n r table₀ buckets₀ table' buckets' Both both past)

          pub through_on : PutFor w.S solved' solved'' → from ≤ old → r ≤ room → At (q + 1) r table' buckets' solved''
          through_on put within-old within =
              record {
                grew =
                    grew_must (Given w.p ks) round room n r table₀ buckets₀ table' buckets' Both _
                    (λ key. ⊎_elim (λ (row, (m, b, i, by), e). at key row m b i by e (ℕ_discrete m q)) (λ k. inr (inr k)))
                    (stepped_within (Given w.p ks) round room n r table₀ buckets₀ table' buckets' Both both within);
                passed_before = λ l N few h.
                    ⊎_elim (passed_more l N few) (λ of. absurd (let b = mask_within (passed_mark + N) all of in omega (arith, l, b))) (put (passed_mark + N) h);
              }
            where
              at : (key : ℕ) (row : Row ℕ) (m : ℕ) → m < q + 1 → InSet found m → SolvedBy w from m row → key ≡ row_key w.p row → Dec (m ≡ q) → Both key
              at key row m b i by e (yes d) = inr (inl (row, solved_stays w table n behind t.grew.same_rows t.grew.same_length from q row within-old (rw d at by), e))
              at key row m b i by e (no d) = inl (inl (row, (m, omega arith, i, by), e))

-- an empty word has no mark
pub empty_word : (found : List ℕ) (q r : ℕ) → get_or found (q / 16) 0 ≡ 0 → r ≡ q / 16 * 16 + 16 → (m : ℕ) → q < m → m < r → InSet found m → ⊥
empty_word found q r none e m l h in_set_law =
    let f : m / 16 ≡ q / 16 = omega arith in
    has_none (m % 16) (rw (f, none) at in_set_law)
