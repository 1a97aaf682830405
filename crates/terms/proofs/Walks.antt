-- The walks for variables, a cell at a time: what the first cell adds to what the cells behind it have.
use Prim.Native.Nat.{ℕ, suc, ◌+◌, ◌-◌, ◌^◌, ◌≤◌, ◌<◌}
use mathlib.Core.Path.{◌≡◌, refl}
use mathlib.Core.Logic.{◌⊎◌, inl, inr, ◌↔◌, ⊎_elim}
use mathlib.Core.List.{List, [], ◌∷◌}
use native.Mathlib.Omega.{arith}
use lib.ListN.{length, get_or, take}
use lib.Bits.{bit_or}
use Rattle.terms.specs.Cells.{first_variable}
use Rattle.terms.specs.Mask.{Has}
use Rattle.terms.specs.Walk.{InRun, Cells, Present, InSets}
use Rattle.terms.proofs.Masks.{has_none, has_or, has_one}
use Rattle.terms.proofs.Steps.{behind, behind_cons}

-- nothing is in a run without cells
pub no_cells_law : (cells : List ℕ) (v : ℕ) → length cells ≡ 0 → InRun v cells → ⊥
no_cells_law [] v e o = o
no_cells_law (c ∷ cs) v e o = omega arith

-- in a run: in its first cell, or behind it
pub in_run : (cells : List ℕ) (v : ℕ) → 0 < length cells → InRun v cells ↔ ((get_or cells 0 0 ≡ first_variable + v) ⊎ InRun v (behind cells))
in_run [] v h = absurd (omega arith)
in_run (c ∷ cs) v h = rw behind_cons (λ o. o, λ o. o)

pub cells_behind : (cells : List ℕ) → 0 < length cells → Cells cells → Cells (behind cells)
cells_behind [] h k = absurd (omega arith)
cells_behind (c ∷ cs) h k = rw behind_cons (λ i l. k (suc i) (omega arith))

-- the part behind the first cell is shorter
pub behind_shorter : (cells : List ℕ) → 0 < length cells → length (behind cells) < length cells
behind_shorter [] h = absurd (omega arith)
behind_shorter (c ∷ cs) h = rw behind_cons (omega arith)

-- behind a function's cell stand all variables of the run
pub in_behind : (cells : List ℕ) (v : ℕ) → 0 < length cells → get_or cells 0 0 < first_variable → InRun v cells ↔ InRun v (behind cells)
in_behind cells v h l = (λ o. go ((in_run cells v h).0 o), λ o. (in_run cells v h).1 (inr o))
  where
    go : (get_or cells 0 0 ≡ first_variable + v) ⊎ InRun v (behind cells) → InRun v (behind cells)
    go (inl e) = absurd (omega arith)
    go (inr o) = o

-- a variable's cell adds its variable
pub in_variable : (cells : List ℕ) (v : ℕ) → 0 < length cells → first_variable ≤ get_or cells 0 0
    → InRun v cells ↔ (InRun v (behind cells) ⊎ (v ≡ get_or cells 0 0 - first_variable))
in_variable cells v h l = (λ o. there ((in_run cells v h).0 o), λ o. (in_run cells v h).1 (back o))
  where
    there : (get_or cells 0 0 ≡ first_variable + v) ⊎ InRun v (behind cells) → InRun v (behind cells) ⊎ (v ≡ get_or cells 0 0 - first_variable)
    there (inl e) = inr (omega arith)
    there (inr o) = inl o

    back : InRun v (behind cells) ⊎ (v ≡ get_or cells 0 0 - first_variable) → (get_or cells 0 0 ≡ first_variable + v) ⊎ InRun v (behind cells)
    back (inl o) = inr o
    back (inr e) = inl (omega arith)

pub present_none : (cells : List ℕ) → length cells ≡ 0 → Present cells 0
present_none cells e v = (λ h. absurd (has_none v h), λ o. absurd (no_cells_law cells v e o))

pub present_function : (cells : List ℕ) (later : ℕ) → 0 < length cells → get_or cells 0 0 < first_variable → Present (behind cells) later → Present cells later
present_function cells later h l p v =
    (λ b. (in_behind cells v h l).1 ((p v).0 b), λ o. (p v).1 ((in_behind cells v h l).0 o))

pub present_variable : (cells : List ℕ) (later : ℕ) → 0 < length cells → first_variable ≤ get_or cells 0 0 → Present (behind cells) later
    → Present cells (bit_or later (2 ^ (get_or cells 0 0 - first_variable)))
present_variable cells later h l p v = (
  (λ b. (in_variable cells v h l).1 (there ((has_or later (2 ^ x) v).0 b))),
  (λ o. (has_or later (2 ^ x) v).1 (back ((in_variable cells v h l).0 o))),
)
  where
    x : ℕ
    x = get_or cells 0 0 - first_variable

    there : Has later v ⊎ Has (2 ^ x) v → InRun v (behind cells) ⊎ (v ≡ x)
    there (inl b) = inl ((p v).0 b)
    there (inr b) = inr ((has_one x v).0 b)

    back : InRun v (behind cells) ⊎ (v ≡ x) → Has later v ⊎ Has (2 ^ x) v
    back (inl o) = inl ((p v).1 o)
    back (inr e) = inr ((has_one x v).1 e)

-- the union of the sets of a run's variables, that of v at base + v
abbrev pub Union : List ℕ → ℕ → List ℕ → ℕ → Type 0
Union cells base sets u = (z : ℕ) → Has u z ↔ InSets cells base sets z

pub union_none : (cells : List ℕ) (base : ℕ) (sets : List ℕ) → length cells ≡ 0 → Union cells base sets 0
union_none cells base sets e z = (λ h. absurd (has_none z h), λ o. absurd (no_cells_law cells o.0 e o.1))

pub union_function : (cells : List ℕ) (base : ℕ) (sets : List ℕ) (later : ℕ) → 0 < length cells → get_or cells 0 0 < first_variable
    → Union (behind cells) base sets later → Union cells base sets later
union_function cells base sets later h l p z = (
  (λ b. let o = (p z).0 b in (o.0, (in_behind cells o.0 h l).1 o.1, o.2)),
  (λ o. (p z).1 (o.0, (in_behind cells o.0 h l).0 o.1, o.2)),
)

pub union_variable : (cells : List ℕ) (base : ℕ) (sets : List ℕ) (later : ℕ) → 0 < length cells → first_variable ≤ get_or cells 0 0
    → Union (behind cells) base sets later → Union cells base sets (bit_or later (get_or sets (base + (get_or cells 0 0 - first_variable)) 0))
union_variable cells base sets later h l p z = (
  (λ b. there ((has_or later (get_or sets (base + x) 0) z).0 b)),
  (λ o. (has_or later (get_or sets (base + x) 0) z).1 (back o.0 ((in_variable cells o.0 h l).0 o.1) o.2)),
)
  where
    x : ℕ
    x = get_or cells 0 0 - first_variable

    there : Has later z ⊎ Has (get_or sets (base + x) 0) z → InSets cells base sets z
    there (inl b) = let o = (p z).0 b in (o.0, (in_variable cells o.0 h l).1 (inl o.1), o.2)
    there (inr b) = (x, (in_variable cells x h l).1 (inr refl), b)

    back : (v : ℕ) → InRun v (behind cells) ⊎ (v ≡ x) → Has (get_or sets (base + v) 0) z → Has later z ⊎ Has (get_or sets (base + x) 0) z
    back v (inl o) b = inl ((p z).1 (v, o, b))
    back v (inr e) b = inr (rw e at b)

-- of a variable's cell alone it is that variable's set
pub union_one : (cells : List ℕ) (base : ℕ) (sets : List ℕ) → 0 < length cells → first_variable ≤ get_or cells 0 0
    → Union (take 1 cells) base sets (get_or sets (base + (get_or cells 0 0 - first_variable)) 0)
union_one [] base sets h l = absurd (omega arith)
union_one (c ∷ cs) base sets h l =
    λ z. (λ b. (c - first_variable, inl (omega arith), b), λ o. ⊎_elim (λ e. at z o.0 e o.2) absurd o.1)
  where
    at : (z v : ℕ) → c ≡ first_variable + v → Has (get_or sets (base + v) 0) z → Has (get_or sets (base + (c - first_variable)) 0) z
    at z v e b = let q : c - first_variable ≡ v = omega arith in rw q b

-- every variable of a run is in a set: the first cell's, and those behind it
pub inside_variable : (cells : List ℕ) (set : ℕ) → 0 < length cells → first_variable ≤ get_or cells 0 0 → Has set (get_or cells 0 0 - first_variable)
    → ((v : ℕ) → InRun v (behind cells) → Has set v) → (v : ℕ) → InRun v cells → Has set v
inside_variable cells set h l b a v o = go ((in_variable cells v h l).0 o)
  where
    go : InRun v (behind cells) ⊎ (v ≡ get_or cells 0 0 - first_variable) → Has set v
    go (inl q) = a v q
    go (inr e) = rw e b
