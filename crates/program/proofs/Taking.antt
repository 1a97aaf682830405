-- One cell of an atom, as the code takes it, and the terms that it opens.
use Prim.Native.Nat.{ℕ, zero, suc, ◌+◌, ◌-◌, ◌≤◌, ◌<◌, ◌*◌}
use native.Mathlib.Omega.{arith}
use native.Mathlib.Numerals.{add-one}
use mathlib.Core.Path.{◌≡◌, refl, ap}
use mathlib.Core.Bool.{Bool, true, false}
use mathlib.Core.List.{List, [], ◌∷◌}
use lib.ListN.{length, get_or}
use lib.Dec.{ltb}
use borrow.Author.Tests.{ltb-true}
use Rattle.std.specs.Prelude.{Result, Ok, Err}
use Rattle.terms.specs.Term.{Terms, nil}
use Rattle.terms.specs.Cells.{atom_cells, first_variable, pick}
use Rattle.program.specs.Reading.{Decoded, right}
use Rattle.program.specs.Atoms.{Cell, Bad, Opens, meet, variable_of, symbol_of, cell_of, build, opened, terms}
use Rattle.program.specs.Limits.{max_variable}
use Rattle.program.specs.Reply.{long_atom, undeclared, bad_variable}
use Rattle.program.specs.declared.reply.Fault.{Fault}
use Rattle.program.specs.declared.part.Place.{Place}
use Rattle.program.specs.declared.cells.Opened.{Opened}
use Rattle.program.specs.Part.{Meets, Asks, Met, left, cell_at, next_cell}
use Rattle.program.proofs.Parts.{meets_same, meets_map}

-- what holds in both cases of a choice holds of the choice
pub pick_cases : {A : Type 0} (P : A → Type 0) (b : Bool) (x y : A) → (b ≡ true → P x) → (b ≡ false → P y) → P (pick b x y)
pick_cases P true x y f g = f refl
pick_cases P false x y f g = g refl

-- what the terms come to, once the first cell is known
pub terms_cell : (functions : List ℕ) (w : ℕ) (ws : List ℕ) (n taken seen : ℕ) (x : Cell) → cell_of functions taken seen w ≡ x
    → terms functions (w ∷ ws) (suc n) taken seen ≡ opened x w ws (λ arity now. terms functions ws (arity + n) (suc taken) now)
unfolding terms
terms_cell functions w ws n taken seen x e = ap (λ (y : Cell). opened y w ws (λ arity now. terms functions ws (arity + n) (suc taken) now)) e

pub no_terms : (functions : List ℕ) (ws : List ℕ) (taken seen : ℕ) → terms functions ws zero taken seen ≡ right (nil, seen) ws
unfolding terms
no_terms functions [] taken seen = refl
no_terms functions (w ∷ ws) taken seen = refl

-- a cell that opens terms is one of the first 32, and asks for fewer than the bound of all arities
abbrev pub Modest : ℕ → ℕ → Cell → Type 0
Modest taken bound (Bad number) = Unit {0}
Modest taken bound (Opens arity now) = (taken < atom_cells) × (arity < bound)

pub cell_modest : (functions : List ℕ) (taken seen w bound : ℕ) → 0 < bound → ((i : ℕ) → get_or functions i 0 < bound)
    → Modest taken bound (cell_of functions taken seen w)
cell_modest functions taken seen w bound z f =
    pick_cases P (ltb taken atom_cells) (symbol_of functions seen w) (Bad long_atom)
    (λ t. let short : taken < atom_cells = ltb-true _ _ t in
    pick_cases P (ltb w first_variable)
    (pick (ltb w (length functions)) (Opens (get_or functions w 0) seen) (Bad undeclared))
    (variable_of seen (w - first_variable))
    (λ _. pick_cases P (ltb w (length functions)) (Opens (get_or functions w 0) seen) (Bad undeclared) (λ _. (short, f w)) (λ _. tt))
    (λ _. pick_cases P (ltb max_variable (w - first_variable)) (Bad bad_variable)
    (pick (ltb seen (w - first_variable)) (Bad bad_variable) (Opens 0 (meet seen (w - first_variable))))
    (λ _. tt)
    (λ _. pick_cases P (ltb seen (w - first_variable)) (Bad bad_variable) (Opens 0 (meet seen (w - first_variable))) (λ _. tt) (λ _. (short, z)))))
    (λ _. tt)
  where
    P : Cell → Type 0
    P = Modest taken bound

module _ (words : List ℕ) where
  opened_modest : (taken bound : ℕ) (o : Opened) (after : Place) (x : Cell) (w : ℕ) (ws : List ℕ) → Modest taken bound x → Meets words Asks (Ok (o, after)) (cell_at x w ws)
      → (taken < atom_cells) × (o.arity < bound)
  opened_modest taken bound o after (Bad number) w ws h m = absurd m
  opened_modest taken bound o after (Opens arity seen) w ws h m = (h.0, rw m.0 h.1)

  opened_fault : (e : Fault) (x : Cell) (w : ℕ) (ws : List ℕ) (read : ℕ → ℕ → Decoded (Terms × ℕ)) → Meets words Asks (Err e) (cell_at x w ws) → Meets words Met (Err e) (opened x w ws read)
  opened_fault e (Bad number) w ws read m = m
  opened_fault e (Opens arity seen) w ws read m = absurd m

  opened_next : (o : Opened) (after : Place) (x : Cell) (w : ℕ) (ws : List ℕ) (read : List ℕ → ℕ → ℕ → Decoded (Terms × ℕ)) (r : Result (ℕ × Place) Fault)
      → Meets words Asks (Ok (o, after)) (cell_at x w ws) → Meets words Met r (read (left after) o.arity o.met) → Meets words Met r (opened x w ws (read ws))
  opened_next o after (Bad number) w ws read r m q = absurd m
  opened_next o after (Opens arity seen) w ws read r m q =
      meets_map words Met Met r (read ws arity seen) (λ x. (build w arity x.0, x.1)) (λ v a rest has. has) (rw (m.2.1, ← m.0, ← m.1) q)

  opened_ends : (v : Opened × Place) (x : Cell) (w : ℕ) (ws : List ℕ) → Meets words Asks (Ok v) (cell_at x w ws) → (v.1.words.now ≡ words) × (ws ≡ left v.1)
  opened_ends v (Bad number) w ws m = absurd m
  opened_ends v (Opens arity seen) w ws m = m.2

-- At a place on the way from another one so many terms are left, of an atom of which so many cells were taken: the answer for those is the answer for all.
abbrev pub OnwardTerms : List ℕ → List ℕ → Place → ℕ → ℕ → Place → ℕ → ℕ → ℕ → Type 0
OnwardTerms words functions from asked seen at n taken known = (at.words.now ≡ words) × (n ≤ 65536 * taken) × (taken ≤ atom_cells)
    × ((r : Result (ℕ × Place) Fault) → Meets words Met r (terms functions (left at) n taken known) → Meets words Met r (terms functions (left from) asked 1 seen))

module _ (words functions : List ℕ) (from : Place) (asked seen : ℕ) (at : Place) (n taken known : ℕ) (more : 0 < n) (on : OnwardTerms words functions from asked seen at n taken known) where
  pub terms_fault : (e : Fault) → Meets at.words.now Asks (Err e) (next_cell functions taken known (left at)) → Meets words Met (Err e) (terms functions (left from) asked 1 seen)
  unfolding terms
  terms_fault e h = on.3 (Err e) (by (left at) n more (meets_same Asks (Err e) (next_cell functions taken known (left at)) on.0 h))
    where
      by : (ws : List ℕ) (k : ℕ) → 0 < k → Meets words Asks (Err e) (next_cell functions taken known ws) → Meets words Met (Err e) (terms functions ws k taken known)
      by ws zero z m = absurd (omega arith)
      by [] (suc k) z m = m
      by (w ∷ ws) (suc k) z m = opened_fault words e (cell_of functions taken known w) w ws (λ arity met. terms functions ws (arity + k) (suc taken) met) m

  -- past a cell
  pub terms_next : (o : Opened) (after : Place) → ((i : ℕ) → get_or functions i 0 < 65536) → Meets at.words.now Asks (Ok (o, after)) (next_cell functions taken known (left at))
      → OnwardTerms words functions from asked seen after (o.arity + (n - 1)) (taken + 1) o.met × (length (left after) < length (left at))
  unfolding terms
  terms_next o after f h = let step = by (left at) n more (meets_same Asks (Ok (o, after)) (next_cell functions taken known (left at)) on.0 h) in
      ((step.0, omega (arith, on.1, step.2, more), omega (arith, step.1), λ r q. on.3 r (step.4 r q)), step.3)
    where
      by : (ws : List ℕ) (k : ℕ) → 0 < k → Meets words Asks (Ok (o, after)) (next_cell functions taken known ws)
          → (after.words.now ≡ words) × (taken < atom_cells) × (o.arity < 65536) × (length (left after) < length ws)
          × ((r : Result (ℕ × Place) Fault) → Meets words Met r (terms functions (left after) (o.arity + (k - 1)) (taken + 1) o.met) → Meets words Met r (terms functions ws k taken known))
      by ws zero z m = absurd (omega arith)
      by [] (suc k) z m = absurd m
      by (w ∷ ws) (suc k) z m =
          let less : suc k - 1 ≡ k = omega arith in
          let modest = opened_modest words taken 65536 o after (cell_of functions taken known w) w ws (cell_modest functions taken known w 65536 (omega arith) f) m in
          let ends = opened_ends words (o, after) (cell_of functions taken known w) w ws m in
          let shorter : length (left after) < length (w ∷ ws) = rw (← ends.1) (omega arith) in (
            ends.0,
            modest.0,
            modest.1,
            shorter,
            λ r q. opened_next words o after (cell_of functions taken known w) w ws (λ rest arity met. terms functions rest (arity + k) (suc taken) met) r m (rw (add-one taken, less) at q),
          )

pub terms_done : (words functions : List ℕ) (from : Place) (asked seen : ℕ) (at : Place) (n taken known : ℕ) → n ≤ 0
    → OnwardTerms words functions from asked seen at n taken known → Meets words Met (Ok (known, at)) (terms functions (left from) asked 1 seen)
terms_done words functions from asked seen at zero taken known z on = on.3 (Ok (known, at)) (rw (no_terms functions (left at) taken known) (refl, (on.0, refl)))
terms_done words functions from asked seen at (suc n) taken known z on = absurd (omega arith)
