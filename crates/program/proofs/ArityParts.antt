-- The arities that are declared are the words between two places.
use Prim.Native.Nat.{ℕ, ◌-◌, ◌≤◌}
use mathlib.Core.Path.{◌≡◌, refl, sym, ap, ◌∙◌}
use mathlib.Core.List.{List}
use lib.ListN.{length, take, drop}
use Rattle.std.specs.Prelude.{Result, Ok, ⊤}
use Rattle.program.specs.Limits.{max_arity}
use Rattle.program.specs.Reply.{out_of_range}
use Rattle.program.specs.Reading.{Decoded, wrong, right}
use Rattle.program.specs.Faults.{arities, written, declared}
use Rattle.program.specs.declared.reply.Fault.{Fault}
use Rattle.program.specs.declared.part.Place.{Place}
use Rattle.program.specs.Part.{Meets, Ends, Nothing, left}
use Rattle.program.proofs.Parts.{meets_same}
use Rattle.program.proofs.Words.{several_read, part_between}

-- so many arities were read from one place to another
pub record Read (n : ℕ) (from end : Place) : Type 0 where
  pub same : end.words.now ≡ from.words.now
  pub later : from.cursor.at ≤ end.cursor.at
  pub inside : end.cursor.at ≤ length from.words.now
  pub are : arities n (left from) ≡ right (take (end.cursor.at - from.cursor.at) (left from)) (left end)

pub arities_read : (n : ℕ) (from end : Place) → Meets from.words.now Ends (Ok end) (arities n (left from)) → Read n from end
arities_read n from end = by (arities n (left from)) refl
  where
    by : (r : Decoded (List ℕ)) → arities n (left from) ≡ r → Meets from.words.now Ends (Ok end) r → Read n from end
    by (wrong number rest) e m = absurd m
    by (right ps rest) e m =
        let inside : end.cursor.at ≤ length from.words.now = rw m.0 at end.inside in
        let here : left end ≡ rest = sym m.1 in
        let behind : rest ≡ drop end.cursor.at from.words.now = m.1 ∙ ap (λ ws. drop end.cursor.at ws) m.0 in
        let span =
        part_between from.words.now ps from.cursor.at end.cursor.at from.inside inside
        (rw behind at (several_read out_of_range max_arity n ps (left from) rest e).are) in
        record { same = m.0; later = span.0; inside = inside; are = rw (span.1, here) e }

-- behind the declarations, the answer is that for what is written with the two parts of the words
pub declared_written : (p f c : ℕ) (from middle end : Place) → Read p from middle → Read f middle end → (r : Result ⊤ Fault)
    → Meets end.words.now Nothing r
    (written (take (middle.cursor.at - from.cursor.at) (left from)) (take (end.cursor.at - middle.cursor.at) (left middle)) c (left end))
    → Meets from.words.now Nothing r (declared p f c (left from))
unfolding declared
declared_written p f c from middle end first second r m =
    rw (first.are, second.are) (meets_same Nothing r (written (take (middle.cursor.at - from.cursor.at) (left from)) (take (end.cursor.at - middle.cursor.at) (left middle)) c (left end)) (second.same ∙ first.same) m)
