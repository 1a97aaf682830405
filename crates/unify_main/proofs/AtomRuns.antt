-- Runs that are terms, a cell at a time: the first cell, and the terms behind it; from these to the run, and back.
use Prim.Native.Nat.{ℕ, ◌+◌, ◌-◌, ◌≤◌, ◌<◌}
use mathlib.Core.Path.{◌≡◌, refl, sym, ap, ap₂, ◌∙◌}
use mathlib.Core.Bool.{Bool, true}
use mathlib.Core.List.{List, [], ◌∷◌, ◌++◌}
use native.Mathlib.Omega.{arith}
use mathlib.Core.Logic.{◌↔◌}
use lib.ListN.{length, get_or, drop, length-drop}
use lib.Seq.{drop-length}
use Rattle.std.proofs.lemmas.List.{drop_more}
use Rattle.terms.specs.Term.{Terms, var, app, nil, cons, count, join}
use Rattle.terms.specs.Cells.{first_variable, variables, atom_cells, enc, encs, Keepss, take_terms, drop_terms, Run}
use Rattle.terms.specs.Store.{no_place, cells_at}
use Rattle.terms.specs.Walk.{Cells}
use Rattle.terms.specs.Unified.{Unification}
use Rattle.terms.proofs.Parts.{same_inside}
use Rattle.terms.proofs.Runs.{encs_split, count_take, count_drop, keeps_take, keeps_drop}
use Rattle.terms.proofs.Steps.{behind, behind_cons, encs_join, keeps_join, count_join, cells_many}
use Rattle.terms.proofs.RunVariables.{cells_encs}
use Rattle.unify_main.specs.AtomRun.{TermsRun, AtomRun, WholeBindings}

module _ (F : List ℕ) where
  -- terms have a cell each at least
  pub terms_many : {cells : List ℕ} {n : ℕ} → TermsRun F cells n → n ≤ length cells
  terms_many r = rw r.is (omega (arith, cells_many r.terms, r.many))

  -- a variable's cell, and the other terms behind it
  variable_first : (c : ℕ) (cs : List ℕ) (n : ℕ) → 0 < n → first_variable ≤ c → c < first_variable + variables → TermsRun F cs (n - 1) → TermsRun F (c ∷ cs) n
  variable_first c cs n p h l r =
      record {
        terms = cons (var (c - first_variable)) r.terms;
        is = ap₂ ◌∷◌ (omega arith) r.is;
        keeps = (omega arith, r.keeps);
        many = omega (arith, r.many);
      }

  variable_behind : (c : ℕ) (cs : List ℕ) (n : ℕ) → first_variable ≤ c → TermsRun F (c ∷ cs) n → (c < first_variable + variables) × TermsRun F cs (n - 1)
  variable_behind c cs n h r = go r.terms r.is r.keeps r.many
    where
      go : (ts : Terms) → c ∷ cs ≡ encs ts → Keepss F ts → count ts ≡ n → (c < first_variable + variables) × TermsRun F cs (n - 1)
      go nil e k m = cc
      go (cons (var v) ts) e k m = let q : c ≡ first_variable + v = cc in (omega (arith, k.0), record { terms = ts; is = cc; keeps = k.1; many = omega arith })
      go (cons (app f us) ts) e k m = let q : c ≡ f = cc in absurd (omega (arith, k.0.1))

  -- a function's cell, and behind it its arguments and the other terms
  function_first : (c : ℕ) (cs : List ℕ) (n : ℕ) → 0 < n → c < first_variable → c < length F → TermsRun F cs (n - 1 + get_or F c 0) → TermsRun F (c ∷ cs) n
  function_first c cs n p h l r =
      let k = get_or F c 0 in
      let e : count r.terms ≡ k + (n - 1) = omega (arith, r.many) in
      record {
        terms = cons (app c (take_terms k r.terms)) (drop_terms k r.terms);
        is = ap (◌∷◌ c) (r.is ∙ sym (encs_split k r.terms));
        keeps = ((l, h, count_take k (n - 1) r.terms e, keeps_take F k r.terms r.keeps), keeps_drop F k r.terms r.keeps);
        many = omega (arith, count_drop k (n - 1) r.terms e);
      }

  function_behind : (c : ℕ) (cs : List ℕ) (n : ℕ) → c < first_variable → TermsRun F (c ∷ cs) n → (c < length F) × TermsRun F cs (n - 1 + get_or F c 0)
  function_behind c cs n h r = go r.terms r.is r.keeps r.many
    where
      go : (ts : Terms) → c ∷ cs ≡ encs ts → Keepss F ts → count ts ≡ n → (c < length F) × TermsRun F cs (n - 1 + get_or F c 0)
      go nil e k m = cc
      go (cons (var v) ts) e k m = let q : c ≡ first_variable + v = cc in absurd (omega arith)
      go (cons (app f us) ts) e k m =
          let q : f ≡ c = cc in
          let tail : cs ≡ encs us ++ encs ts = cc in
          let arity : count us ≡ get_or F c 0 = rw q at k.0.2 in (
            rw q at k.0.0,
            record {
              terms = join us ts;
              is = tail ∙ sym (encs_join us ts);
              keeps = keeps_join F us ts k.0.3 k.1;
              many = omega (arith, count_join us ts);
            },
          )

-- a walk over a run: with the cells before i passed, the run is n terms if the cells from i on are as many as are left
abbrev pub Left : List ℕ → List ℕ → ℕ → ℕ → ℕ → Type 0
Left F R n i left = TermsRun F (drop i R) left ↔ TermsRun F R n

module _ (F R : List ℕ) (n i left : ℕ) (within : i < length R) (L : Left F R n i left) where
  here : drop i R ≡ get_or R i 0 ∷ drop (i + 1) R
  here = drop_more R i 0 within

  from_here : TermsRun F R n → TermsRun F (get_or R i 0 ∷ drop (i + 1) R) left
  from_here r = rw here at (L.1 r)

  -- one cell more
  pub left_variable : 0 < left → first_variable ≤ get_or R i 0 → get_or R i 0 < first_variable + variables → Left F R n (i + 1) (left - 1)
  left_variable p h l = (
    λ r. L.0 (rw here (variable_first F (get_or R i 0) (drop (i + 1) R) left p h l r)),
    λ r. (variable_behind F (get_or R i 0) (drop (i + 1) R) left h (from_here r)).1,
  )

  pub left_function : 0 < left → get_or R i 0 < first_variable → get_or R i 0 < length F → Left F R n (i + 1) (left - 1 + get_or F (get_or R i 0) 0)
  left_function p h l = (
    λ r. L.0 (rw here (function_first F (get_or R i 0) (drop (i + 1) R) left p h l r)),
    λ r. (function_behind F (get_or R i 0) (drop (i + 1) R) left h (from_here r)).1,
  )

  -- and what the cell shows of a run that is terms: some are left, and no more than cells; a variable is at most 15, and a function declared
  pub some_left : TermsRun F R n → 0 < left
  some_left r = go left (from_here r)
    where
      go : (m : ℕ) → TermsRun F (get_or R i 0 ∷ drop (i + 1) R) m → 0 < m
      go m q = at q.terms q.is q.many
        where
          at : (ts : Terms) → get_or R i 0 ∷ drop (i + 1) R ≡ encs ts → count ts ≡ m → 0 < m
          at nil e k = cc
          at (cons t ts) e k = omega arith

  pub few_left : TermsRun F R n → left ≤ length R - i
  few_left r = omega (arith, terms_many F (L.1 r), length-drop i R)

  pub variable_small : first_variable ≤ get_or R i 0 → TermsRun F R n → get_or R i 0 < first_variable + variables
  variable_small h r = (variable_behind F (get_or R i 0) (drop (i + 1) R) left h (from_here r)).0

  pub function_there : get_or R i 0 < first_variable → TermsRun F R n → get_or R i 0 < length F
  function_there h r = (function_behind F (get_or R i 0) (drop (i + 1) R) left h (from_here r)).0

-- with every cell passed, none are left
pub none_left : (F R : List ℕ) (n i left : ℕ) → i ≡ length R → Left F R n i left → left ≡ 0 ↔ TermsRun F R n
none_left F R n i left e L =
    let over : drop i R ≡ [] = rw e (drop-length R) in (
      λ z. L.0 (rw (over, z) (record { terms = nil; is = refl; keeps = tt; many = refl })),
      λ r. let q : TermsRun F [] left = rw over at (L.1 r) in omega (arith, terms_many F q),
    )

-- a predicate's cell, and its arguments behind it
pub predicate_first : (P F : List ℕ) (c : ℕ) (cs : List ℕ) → length (c ∷ cs) ≤ atom_cells → c < length P → TermsRun F cs (get_or P c 0) → AtomRun P F (c ∷ cs)
predicate_first P F c cs h l r =
    let e : c ∷ cs ≡ enc (app c r.terms) = ap (◌∷◌ c) r.is in
    record {
      term = app c r.terms;
      is = e;
      atom =
          record {
            predicate = c;
            arguments = r.terms;
            is = refl;
            declared = l;
            arity = r.many;
            keeps = r.keeps;
            short = omega (arith, ap length e);
          };
    }

pub predicate_behind : {P F : List ℕ} {c : ℕ} {cs : List ℕ} → AtomRun P F (c ∷ cs) → TermsRun F cs (get_or P c 0)
predicate_behind {P} {F} {c} {cs} r =
    let k = r.atom in
    let e : c ∷ cs ≡ k.predicate ∷ encs k.arguments = r.is ∙ ap enc k.is in
    let q : k.predicate ≡ c = cc in
    record { terms = k.arguments; is = cc; keeps = k.keeps; many = rw q at k.arity }

-- behind an atom's predicate stand cells of functions and of variables at most 15
pub atom_cells_law : (P F cells : List ℕ) → AtomRun P F cells → (0 < length cells) × Cells (behind cells)
atom_cells_law P F cells r =
    let k = r.atom in
    let e : cells ≡ k.predicate ∷ encs k.arguments = r.is ∙ ap enc k.is in
    rw (e, behind_cons) (omega arith, cells_encs F k.arguments k.keeps)

-- a unifier's bindings are whole terms
pub unified_bindings : (P F a b : List ℕ) → AtomRun P F a → AtomRun P F b → (r : Bool) (places sets : List ℕ) → r ≡ true
    → Unification P F a b r places sets → WholeBindings F a b places
unified_bindings P F a b u w r places sets e o =
    let g = rw e at (o u.term w.term u.is w.is u.atom w.atom) in
    record { all_places = g.all_places; whole = g.whole }

-- the place that is read for a bound variable is that of a whole term
pub binding_whole : (F a b places : List ℕ) → WholeBindings F a b places → (x p : ℕ) → x < 32 → p ≡ get_or places x 0 → p < no_place
    → Run F (cells_at a b p) 1
binding_whole F a b places w x p s e h =
    let q : p ≡ get_or places x no_place = e ∙ same_inside places x 0 no_place (omega (arith, w.all_places)) in
    rw q (w.whole x (omega arith))
