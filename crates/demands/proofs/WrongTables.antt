-- What the promise asks of *Legs* and *Late call*, and what holds of tables whose rows are changed.
use Prim.Native.Nat.{ℕ, zero, suc, ◌<◌}
use native.Mathlib.Omega.{arith}
use mathlib.Core.Path.{◌≡◌, refl, ap, ◌∙◌}
use mathlib.Core.Logic.{inl, inr}
use mathlib.Core.List.{List, [], ◌∷◌, ◌++◌}
use lib.ListN.{replicate, get_or, take, drop}
use lib.Seq.{get_or-take, get_or-drop}
use Rattle.terms.specs.Term.{Term}
use Rattle.marks.specs.Modes.{modes}
use Rattle.marks.proofs.Modes.{modes_sound}
use Rattle.program.specs.Limits.{row_size}
use Rattle.program.specs.Program.{Program}
use Rattle.program.specs.Reply.{done}
use Rattle.program.specs.declared.reply.Reply.{Reply}
use Rattle.table.specs.Rules.{Row, call, cont, solution}
use Rattle.table.specs.Table.{row_words, table_words}
use Rattle.table.proofs.Promise.{promise_unique}
use Rattle.runs.specs.Cover.{Covered}
use Rattle.runs.specs.TableRows.{StandsIn}
use Rattle.demands.specs.Wrong.{Analyser, Keeps, EachRow, AllRows, round_of, changed}
use Rattle.demands.specs.SamplePrograms.{legs_words, legs_rows, late_words, late_rows}
use Rattle.demands.proofs.StarredSamples.{legs_leaves, late_leaves}

-- room for ten rows
abbrev pub lent : List ℕ
lent = replicate 50 0

-- the one table of each of the two
abbrev pub legs_left : List ℕ
legs_left = table_words legs_rows ++ replicate 15 0

abbrev pub late_left : List ℕ
late_left = table_words late_rows ++ replicate 5 0

pub on_legs : (a : Analyser) → Keeps a legs_words lent → ((a legs_words lent).reply ≡ done 7) × ((a legs_words lent).table ≡ legs_left)
on_legs a keeps = promise_unique legs_words 50 _ _ _ _ keeps (legs_leaves 50 (omega arith))

pub on_late : (a : Analyser) → Keeps a late_words lent → ((a late_words lent).reply ≡ done 9) × ((a late_words lent).table ≡ late_left)
on_late a keeps = promise_unique late_words 50 _ _ _ _ keeps late_leaves

-- what holds of each row that is left holds of each row of the one table
module _ (P : List ℕ → Type 0) (a : Analyser) where
  pub each_on_legs : AllRows P (a legs_words lent) → Keeps a legs_words lent → EachRow P 7 legs_left
  each_on_legs each keeps = let (r, t) = on_legs a keeps in rw (t, ap (λ (r : Reply). r.count) r) at each

  pub each_on_late : AllRows P (a late_words lent) → Keeps a late_words lent → EachRow P 9 late_left
  each_on_late each keeps = let (r, t) = on_late a keeps in rw (t, ap (λ (r : Reply). r.count) r) at each

-- what holds of a row with its round and mask made up holds of each row that is changed
pub each_changed : (P : List ℕ → Type 0) (round mask : List ℕ → ℕ)
    → ((words rest : List ℕ) → P (round words ∷ get_or words 1 0 ∷ get_or words 2 0 ∷ get_or words 3 0 ∷ mask words ∷ rest))
    → (n : ℕ) (words : List ℕ) → EachRow P n (changed round mask n words)
each_changed P round mask h zero words = tt
each_changed P round mask h (suc n) words = (h words _, each_changed P round mask h n (drop row_size words))

-- the row with no mark
abbrev pub any_row : Row ℕ → Row ℕ
any_row (call s M) = call s 0
any_row (cont n i M) = cont n i 0
any_row (solution s M) = solution s 0

-- a row that stands in a table stands with no mark in the one where every mask is 0
pub stands_any : (n : ℕ) (words : List ℕ) (row : Row ℕ) → StandsIn n words row → StandsIn n (changed round_of (λ row. 0) n words) (any_row row)
stands_any zero words row x' = elim x' [ ]
stands_any (suc n) words row (inl e) = inl (three words (row_words row) e ∙ unmarked row)
  where
    three : (words four : List ℕ) → take 4 (drop 1 words) ≡ four
        → get_or words 1 0 ∷ get_or words 2 0 ∷ get_or words 3 0 ∷ 0 ∷ [] ≡ get_or four 0 0 ∷ get_or four 1 0 ∷ get_or four 2 0 ∷ 0 ∷ []
    three words four e =
        let a : ◌<◌ 0 4 = omega arith in
        let b : ◌<◌ 1 4 = omega arith in
        let c : ◌<◌ 2 4 = omega arith in
        rw (← e) (simp (get_or-take, get_or-drop))

    unmarked : (row : Row ℕ) → get_or (row_words row) 0 0 ∷ get_or (row_words row) 1 0 ∷ get_or (row_words row) 2 0 ∷ 0 ∷ [] ≡ row_words (any_row row)
    unmarked (call s M) = refl
    unmarked (cont n i M) = refl
    unmarked (solution s M) = refl
stands_any (suc n) words row (inr h) = inr (stands_any n (drop row_size words) row h)

pub covered_any : (p : Program) (s M : ℕ) (A : Term) → Covered modes p s M A → Covered modes p s 0 A
covered_any p s M A by =
    record { shape = by.shape; numbered = by.numbered; terms = by.terms; reads = by.reads; holds = modes_sound.holds_none by.terms }
