-- One cell of a run: what stands behind a variable's cell and behind a function's cell, and how many cells the terms have.
use Prim.Native.Nat.{ℕ, suc, ◌+◌, ◌-◌, ◌≤◌, ◌<◌}
use mathlib.Core.Path.{◌≡◌, refl, sym, ap, ap₂, ◌∙◌}
use mathlib.Core.List.{List, [], ◌∷◌, ◌++◌, append_assoc}
use native.Mathlib.Omega.{arith}
use lib.ListN.{length, get_or, take, drop, length-append}
use lib.Seq.{take_all}
use Rattle.terms.specs.Term.{Term, Terms, var, app, nil, cons, count, join}
use Rattle.terms.specs.Cells.{enc, encs, Keepss, first_variable, variables, Run}
use Rattle.terms.specs.Walk.{cells_of}
use Rattle.terms.proofs.Runs.{run_terms}

-- the cells behind the first one, as `&run[1..]` has them
abbrev pub behind : List ℕ → List ℕ
behind cells = take (length cells - 1) (drop 1 cells)

pub behind_cons : (c : ℕ) (cs : List ℕ) → behind (c ∷ cs) ≡ cs
behind_cons c cs = take_all (suc (length cs) - 1) cs (omega arith)

pub encs_join : (ts us : Terms) → encs (join ts us) ≡ encs ts ++ encs us
encs_join nil us = refl
encs_join (cons t ts) us = ap (λ (l : List ℕ). enc t ++ l) (encs_join ts us) ∙ sym (append_assoc (enc t) (encs ts) (encs us))

pub keeps_join : (arities : List ℕ) (ts us : Terms) → Keepss arities ts → Keepss arities us → Keepss arities (join ts us)
keeps_join arities nil us k l = l
keeps_join arities (cons t ts) us k l = (k.0, keeps_join arities ts us k.1 l)

pub count_join : (ts us : Terms) → count (join ts us) ≡ count ts + count us
count_join nil us = omega arith
count_join (cons t ts) us = omega (arith, count_join ts us)

-- what the first cell of a run of at least one term says
pub data First (arities : List ℕ) (c : ℕ) (cs : List ℕ) (n : ℕ) : Type 0 where
  variable : (v : ℕ) (ts : Terms) (rest : List ℕ) → c ≡ first_variable + v → v < variables
      → cs ≡ encs ts ++ rest → Keepss arities ts → n ≡ suc (count ts) → First arities c cs n
  function : (us ts : Terms) (rest : List ℕ) → c < first_variable → c < length arities → count us ≡ get_or arities c 0
      → cs ≡ encs (join us ts) ++ rest → Keepss arities us → Keepss arities ts → n ≡ suc (count ts) → First arities c cs n

first_cell : (arities : List ℕ) (c : ℕ) (cs : List ℕ) (n : ℕ) → (n ≡ 0 → ⊥) → (ts : Terms) (rest : List ℕ)
    → c ∷ cs ≡ encs ts ++ rest → Keepss arities ts → count ts ≡ n → First arities c cs n
first_cell arities c cs n h nil rest e k m = absurd (h (sym m))
first_cell arities c cs n h (cons (var v) ts) rest e k m = variable v ts rest (cc) k.0 (cc) k.1 (sym m)
first_cell arities c cs n h (cons (app f us) ts) rest e k m =
    let q : f ≡ c = cc in
    function us ts rest
    (rw (← q) k.0.1)
    (rw (← q) k.0.0)
    (k.0.2 ∙ ap (λ (x : ℕ). get_or arities x 0) q)
    (let e' : cs ≡ encs us ++ encs ts ++ rest = cc in e' ∙ ap (λ (l : List ℕ). l ++ rest) (sym (encs_join us ts)))
    k.0.3
    k.1
    (sym m)

pub first_of : (arities : List ℕ) (c : ℕ) (cs : List ℕ) (n : ℕ) → (n ≡ 0 → ⊥) → Run arities (c ∷ cs) n → First arities c cs n
first_of arities c cs n h r = first_cell arities c cs n h r.terms r.rest r.cut r.keeps r.many

-- a run of at least one term has a cell
pub run_cell : (arities cells : List ℕ) (n : ℕ) → (n ≡ 0 → ⊥) → Run arities cells n → 0 < length cells
run_cell arities [] n h r = go r.terms r.cut r.many
  where
    go : (ts : Terms) → [] ≡ encs ts ++ r.rest → count ts ≡ n → 0 < 0
    go nil e m = absurd (h (sym m))
    go (cons (var v) ts) e m = let z : ◌≡◌ {A = ℕ} 0 1 = cc in omega arith
    go (cons (app f us) ts) e m = let z : ◌≡◌ {A = ℕ} 0 1 = cc in omega arith
run_cell arities (c ∷ cs) n h r = omega arith

-- a term has a cell at least
mutual
  pub cells_some : (t : Term) → 1 ≤ length (enc t)
  cells_some (var v) = omega arith
  cells_some (app f ts) = omega arith

pub cells_many : (ts : Terms) → count ts ≤ length (encs ts)
cells_many nil = omega arith
cells_many (cons t ts) = rw length-append (omega (arith, cells_some t, cells_many ts))

-- no more terms than cells
pub run_many : (arities cells : List ℕ) (n : ℕ) → Run arities cells n → n ≤ length cells
run_many arities cells n r =
    rw (r.cut, length-append) (omega (arith, cells_many r.terms, r.many))

-- the terms of a run are within its cells
pub run_within : (arities cells : List ℕ) (n : ℕ) → Run arities cells n → cells_of arities cells n ≤ length cells
run_within arities cells n r =
    rw (run_terms arities cells n r) (omega (arith, simp length-append at (ap length r.cut)))

module _ (arities : List ℕ) where
  pub function_declared : (cells : List ℕ) (n : ℕ) → (n ≡ 0 → ⊥) → Run arities cells n → get_or cells 0 0 < first_variable
      → get_or cells 0 0 < length arities
  function_declared [] n h r l = absurd (omega (arith, run_cell arities [] n h r))
  function_declared (c ∷ cs) n h r l = go (first_of arities c cs n h r)
    where
      go : First arities c cs n → c < length arities
      go (variable v ts rest e b q k m) = absurd (omega arith)
      go (function us ts rest b d a q k k' m) = d

  -- behind a function's cell stand its arguments and then the other terms
  pub function_run : (cells : List ℕ) (n : ℕ) → (n ≡ 0 → ⊥) → Run arities cells n → get_or cells 0 0 < first_variable
      → Run arities (behind cells) (n - 1 + get_or arities (get_or cells 0 0) 0)
  function_run [] n h r l = absurd (omega (arith, run_cell arities [] n h r))
  function_run (c ∷ cs) n h r l = rw behind_cons (go (first_of arities c cs n h r))
    where
      go : First arities c cs n → Run arities cs (n - 1 + get_or arities c 0)
      go (variable v ts rest e b q k m) = absurd (omega arith)
      go (function us ts rest b d a q k k' m) =
          record { terms = join us ts; rest = rest; cut = q; keeps = keeps_join arities us ts k k'; many = omega (arith, count_join us ts) }

  -- behind a variable's cell stand the other terms
  pub variable_run : (cells : List ℕ) (n : ℕ) → (n ≡ 0 → ⊥) → Run arities cells n → first_variable ≤ get_or cells 0 0
      → Run arities (behind cells) (n - 1)
  variable_run [] n h r l = absurd (omega (arith, run_cell arities [] n h r))
  variable_run (c ∷ cs) n h r l = rw behind_cons (go (first_of arities c cs n h r))
    where
      go : First arities c cs n → Run arities cs (n - 1)
      go (variable v ts rest e b q k m) = record { terms = ts; rest = rest; cut = q; keeps = k; many = omega arith }
      go (function us ts rest b d a q k k' m) = absurd (omega arith)

  -- the cells of a run's terms: the first one, and those behind it
  pub function_cells : (cells : List ℕ) (n : ℕ) → (h : n ≡ 0 → ⊥) (r : Run arities cells n) (l : get_or cells 0 0 < first_variable)
      → 1 + cells_of arities (behind cells) (n - 1 + get_or arities (get_or cells 0 0) 0) ≡ cells_of arities cells n
  function_cells [] n h r l = absurd (omega (arith, run_cell arities [] n h r))
  function_cells (c ∷ cs) n h r l = rw behind_cons (go (first_of arities c cs n h r))
    where
      go : First arities c cs n → 1 + cells_of arities cs (n - 1 + get_or arities c 0) ≡ cells_of arities (c ∷ cs) n
      go (variable v ts rest e b q k m) = absurd (omega arith)
      go (function us ts rest b d a q k k' m) =
          let e₁ = run_terms arities cs (n - 1 + get_or arities c 0)
          (record { terms = join us ts; rest = rest; cut = q; keeps = keeps_join arities us ts k k'; many = omega (arith, count_join us ts) }) in
          let e₂ = run_terms arities (c ∷ cs) n
          (record {
            terms = cons (app c us) ts;
            rest = rest;
            cut = ap (◌∷◌ c) (q ∙ ap (λ (x : List ℕ). x ++ rest) (encs_join us ts));
            keeps = ((d, b, a, k), k');
            many = sym m;
          }) in
          rw (e₁, e₂, encs_join) (omega arith)

  pub variable_cells : (cells : List ℕ) (n : ℕ) → (h : n ≡ 0 → ⊥) (r : Run arities cells n) (l : first_variable ≤ get_or cells 0 0)
      → 1 + cells_of arities (behind cells) (n - 1) ≡ cells_of arities cells n
  variable_cells [] n h r l = absurd (omega (arith, run_cell arities [] n h r))
  variable_cells (c ∷ cs) n h r l = rw behind_cons (go (first_of arities c cs n h r))
    where
      go : First arities c cs n → 1 + cells_of arities cs (n - 1) ≡ cells_of arities (c ∷ cs) n
      go (variable v ts rest e b q k m) =
          let e₁ = run_terms arities cs (n - 1) (record { terms = ts; rest = rest; cut = q; keeps = k; many = omega arith }) in
          let e₂ = run_terms arities (c ∷ cs) n
          (record { terms = cons (var v) ts; rest = rest; cut = ap₂ ◌∷◌ e q; keeps = (b, k); many = sym m }) in
          rw (e₁, e₂) (omega arith)
      go (function us ts rest b d a q k k' m) = absurd (omega arith)

  -- a variable's cell is a term by itself
  pub variable_one : (cells : List ℕ) → Run arities cells 1 → first_variable ≤ get_or cells 0 0 → cells_of arities cells 1 ≡ 1
  variable_one cells r l = sym (variable_cells cells 1 (λ e. omega arith) r l)
