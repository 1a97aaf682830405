-- The line of a refusal: it is short, so that it has room, and its five parts one behind another are the line.
use Prim.Native.Nat.{ℕ, ◌≤◌}
use mathlib.Core.Path.{◌≡◌, sym, ap, ◌∙◌}
use mathlib.Core.List.{List, [], ◌∷◌, ◌++◌, append_assoc, append-nil}
use native.Mathlib.Omega.{arith}
use lib.ListN.{length, take, length-append}
use Rattle.text.specs.Decimal.{decimal}
use Rattle.text.specs.Line.{tab, line_feed}
use Rattle.text.specs.Put.{Put}
use Rattle.text.proofs.Decimals.{digits_few}
use Rattle.text.proofs.Puts.{put_append, put_place, put_front}
use Rattle.printing.specs.Printed.{refused_word, refused_line, listing_room}

module _ (number place : ℕ) where
  -- the parts in the order in which they are put
  abbrev parts : List ℕ
  parts = (refused_word ++ tab ∷ []) ++ decimal number ++ tab ∷ [] ++ decimal place ++ line_feed ∷ []

  parts_are : parts ≡ refused_line number place
  parts_are =
      ap (λ (s : List ℕ). (refused_word ++ tab ∷ []) ++ s ++ line_feed ∷ [])
      (append_assoc (decimal number) (tab ∷ []) (decimal place) ∙ ap (λ (s : List ℕ). decimal number ++ tab ∷ s) (sym (append-nil (decimal place))))

  parts_short : length parts ≤ listing_room
  parts_short =
      let a : List ℕ = (decimal number ++ tab ∷ []) ++ decimal place in
      omega (arith, length-append a (line_feed ∷ []), length-append (decimal number ++ tab ∷ []) (decimal place), length-append (decimal number) (tab ∷ []), digits_few 20 number, digits_few 20 place)

  -- (refused) what is put, part by part, from the start of the room
  pub line_put : {o₀ o₁ o₂ o₃ o₄ o₅ : List ℕ} {e₁ e₂ e₃ e₄ e₅ : ℕ} → length o₀ ≡ listing_room → Put (refused_word ++ tab ∷ []) o₀ o₁ 0 e₁ → Put (decimal number) o₁ o₂ e₁ e₂
      → Put (tab ∷ []) o₂ o₃ e₂ e₃ → Put (decimal place) o₃ o₄ e₃ e₄ → Put (line_feed ∷ []) o₄ o₅ e₄ e₅ → (e₅ ≤ listing_room) × (take e₅ o₅ ≡ refused_line number place)
  line_put {o₀} {e₅ = e₅} room a b c d e =
      let all = put_append (put_append (put_append (put_append a b) c) d) e in
      let end = put_place all (omega arith) in
      let short = parts_short in
      let fits : e₅ ≤ length o₀ = omega arith in
      (omega arith, put_front all fits ∙ parts_are)
