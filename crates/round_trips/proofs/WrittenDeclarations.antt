-- The declarations that the writer writes are read as the names and arities that they were written from.
use Prim.Native.Nat.{ℕ, suc, ◌+◌, ◌-◌, ◌*◌, ◌≤◌, ◌<◌}
use native.Mathlib.Omega.{arith}
use native.Mathlib.Nat.{zero-add}
use native.Mathlib.Numerals.{add-one}
use mathlib.Core.Path.{◌≡◌, refl}
use mathlib.Core.List.{List, [], ◌∷◌, ◌++◌, append_assoc}
use lib.ListN.{length}
use lib.Seq.{take_all}
use borrow.Author.Tests.{lt-ltb, le-ltb, eq-eqb}
use Rattle.program.specs.Limits.{min_predicates, max_declared, max_arity}
use Rattle.program.specs.Within.{Each, none, more}
use Rattle.text.specs.Name.{name_bytes, padded, seek}
use Rattle.text.specs.Decimal.{decimal}
use Rattle.text_lines.specs.Keyword.{pred, func}
use Rattle.cells.specs.TextSoFar.{right, TextSoFar, nothing, more as goesOn, Scenario}
use Rattle.declarations.specs.Declarations.{symbol_of}
use Rattle.text_lines.specs.Lines.{fields_of}
use Rattle.writer.specs.Names.{first_of}
use Rattle.written_lines.specs.Tokens.{symbol_token}
use Rattle.written_lines.specs.Lines.{declaration_fields, declarations}
use Rattle.round_trips.proofs.Printed.{Printed, name_printed}
use Rattle.round_trips.proofs.PrintedNumbers.{number_printed}
use Rattle.round_trips.proofs.ReadNames.{SoundNames}
use Rattle.round_trips.proofs.WrittenNames.{sound_name, SoundName, first_names, names_more, name_new, first_predicate, first_function}
use Rattle.round_trips.proofs.Sections.{in_section, next_section}
use Rattle.round_trips.proofs.ReadSoFar.{others_behind, declaration_items, predicates_of, functions_of}
use Rattle.round_trips.proofs.WrittenLines.{ReadsOn, reads_section}

pub arity_printed : (arity : ℕ) → arity ≤ max_arity → Printed (decimal arity)
arity_printed arity h = let d = number_printed arity (omega arith) in record { bytes = d.bytes; short = omega (arith, d.short) }

-- a declaration's name and arity, behind the names before it
symbol_new : (names : List ℕ) (predicates from m i arity at : ℕ) → i ≡ from + m → first_of predicates i ≡ from → i * name_bytes ≤ length names
    → SoundName names predicates i → arity ≤ max_arity
    → symbol_of (first_names names i) from m at (symbol_token names i) (decimal arity) ≡ right arity
symbol_new names predicates from m i arity at is e l sound h =
    rw (
      sound.name,
      eq-eqb (seek (first_names names i) (padded (symbol_token names i)) from m) (from + m) (name_new names predicates from m i is e l sound),
      (number_printed arity (omega arith)).read,
      le-ltb max_arity arity h,
    )

module _ (names ps fs : List ℕ) (sound : SoundNames names (length ps) (length fs)) where
  -- the text so far, within the predicates and within the functions, by the number of the next symbol
  abbrev in_predicates : ℕ → List ℕ → TextSoFar
  in_predicates i ws = in_section (first_names names i) [] (suc others_behind) i ws

  abbrev in_functions : ℕ → List ℕ → TextSoFar
  in_functions i ws = in_section (first_names names i) (predicates_of names ps ∷ []) others_behind (i - length ps) ws

  pred_read : (i arity : ℕ) (ws : List ℕ) (at : ℕ) → i < length ps → length ps ≤ max_declared → arity ≤ max_arity
      → fields_of (in_predicates i ws) at (pred ∷ declaration_fields names i arity) ≡ right (goesOn (in_predicates (suc i) (ws ++ arity ∷ [])))
  pred_read i arity ws at h most small =
      let s : SoundName names (length ps) i = sound_name sound i (omega arith) in
      let room : i * name_bytes ≤ length names = omega (arith, sound.sized) in
      rw (
        lt-ltb i max_declared (omega arith),
        symbol_new names (length ps) 0 i i arity (at + 4) (omega arith) (first_predicate (length ps) i h) room s small,
        s.kept,
        names_more names i,
        add-one i,
      )

  func_read : (i arity : ℕ) (ws : List ℕ) (at : ℕ) → 0 < length ps → length ps ≤ i → i < length ps + length fs → length fs ≤ max_declared → arity ≤ max_arity
      → fields_of (in_functions i ws) at (func ∷ declaration_fields names i arity) ≡ right (goesOn (in_functions (suc i) (ws ++ arity ∷ [])))
  func_read i arity ws at some h few most small =
      let s : SoundName names (length ps) i = sound_name sound i few in
      let room : i * name_bytes ≤ length names = omega (arith, sound.sized) in
      let one : i - length ps + 1 ≡ suc i - length ps = omega arith in
      rw (
        lt-ltb 0 (length ps) some,
        lt-ltb (i - length ps) max_declared (omega arith),
        symbol_new names (length ps) (length ps) (i - length ps) i arity (at + 4) (omega arith) (first_function (length ps) i h) room s small,
        s.kept,
        names_more names i,
        one,
        append_assoc ps ws (arity ∷ []),
      )

  declaration_printed : (i arity : ℕ) → i < length ps + length fs → arity ≤ max_arity → Each Printed (declaration_fields names i arity)
  declaration_printed i arity h small =
      more (name_printed (symbol_token names i) (sound_name sound i h).name) (more (arity_printed arity small) none)

  -- all declarations, and what is read behind them
  pub reads_declared : (rest : List ℕ) (s : Scenario) → min_predicates ≤ length ps → length ps ≤ max_declared → length fs ≤ max_declared
      → Each (λ arity. arity ≤ max_arity) ps → Each (λ arity. arity ≤ max_arity) fs
      → ReadsOn (in_section names (predicates_of names ps ∷ functions_of names (length ps) fs ∷ []) (others_behind - 1) 0 []) rest s
      → ReadsOn nothing (declarations pred names 0 ps ++ (declarations func names (length ps) fs ++ rest)) s
  reads_declared rest s some most functions_most small functions-small r =
      reads_section (declaration_items pred names) (name_printed pred refl).bytes (λ arity. arity ≤ max_arity) in_predicates 0 (length ps)
      (λ i arity h small. declaration_printed i arity (omega arith) small)
      (λ i arity ws at l h small. pred_read i arity ws at h most small)
      0 ps [] (declarations func names (length ps) fs ++ rest) s (omega arith) (zero-add (length ps)) small
      (rw start
      (reads_section (declaration_items func names) (name_printed func refl).bytes (λ arity. arity ≤ max_arity) in_functions (length ps) (length ps + length fs)
      (λ i arity h small. declaration_printed i arity h small)
      (λ i arity ws at l h small. func_read i arity ws at (omega arith) l h functions_most small)
      (length ps) fs [] rest s (omega arith) refl functions-small
      (rw end r)))
    where
      start : in_predicates (length ps) ps ≡ in_functions (length ps) []
      start =
          let none_yet : length ps - length ps ≡ 0 = omega arith in
          rw none_yet (next_section (first_names names (length ps)) [] others_behind (predicates_of names ps))

      end : in_functions (length ps + length fs) fs ≡ in_section names (predicates_of names ps ∷ functions_of names (length ps) fs ∷ []) (others_behind - 1) 0 []
      end =
          let all : length ps + length fs - length ps ≡ length fs = omega arith in
          let whole : first_names names (length ps + length fs) ≡ names = take_all ((length ps + length fs) * name_bytes) names (omega (arith, sound.sized)) in
          rw (all, whole) (next_section names (predicates_of names ps ∷ []) (others_behind - 1) (functions_of names (length ps) fs))
