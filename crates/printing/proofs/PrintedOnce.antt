-- For every text something is printed, and nothing else is.
use Prim.Native.Nat.{ℕ}
use mathlib.Core.Path.{◌≡◌, refl, sym, ap₂, ◌∙◌}
use mathlib.Core.List.{List}
use Rattle.cells.specs.TextSoFar.{Read, wrong, right, Scenario}
use Rattle.reader.specs.Read.{read_of}
use Rattle.cells.proofs.Readings.{wrong_or_right}
use Rattle.lister.proofs.ListedOnce.{listed_unique, listed_met}
use Rattle.printing.specs.Printed.{refused_line, table_room, listing_room, shown, PrintedOf, Printed, unread, read}

-- of a program with its names
printed_of_unique : (words names a b : List ℕ) → PrintedOf words names a → PrintedOf words names b → a ≡ b
printed_of_unique words names a b p q =
    let same = listed_unique words names table_room listing_room p.reply q.reply p.table q.table p.out q.out p.listed q.listed in
    p.shows ∙ ap₂ shown same.0 same.2 ∙ sym q.shows

printed_of_met : (words names : List ℕ) → (printed : List ℕ) × PrintedOf words names printed
printed_of_met words names =
    let (r, t, o, l) = listed_met words names table_room listing_room in
    (shown r o, record { reply = r; table = t; out = o; listed = l; shows = refl })

-- "show that no second reply satisfies it": two answers for one text are one
pub printed_unique : (text a b : List ℕ) → Printed text a → Printed text b → a ≡ b
printed_unique text a b (unread n q e is) (unread n' q' e' is') = is ∙ same (sym e ∙ e') ∙ sym is'
  where
    same : ◌≡◌ {A = Read Scenario} (wrong n q) (wrong n' q') → refused_line n q ≡ refused_line n' q'
    same d = let x : n ≡ n' = cc in let y : q ≡ q' = cc in ap₂ refused_line x y
printed_unique text a b (unread n q e is) (read s e' p) = absurd (wrong_or_right _ e e')
printed_unique text a b (read s e p) (unread n q e' is) = absurd (wrong_or_right _ e' e)
printed_unique text a b (read s e p) (read s' e' p') = same (sym e ∙ e') p'
  where
    same : right s ≡ right s' → PrintedOf s'.words s'.names b → a ≡ b
    same d p' = let x : s' ≡ s = cc in printed_of_unique s.words s.names a b p (rw x at p')

-- "For all inputs, refused ones too": there is an answer
pub printed_met : (text : List ℕ) → (printed : List ℕ) × Printed text printed
printed_met text = by (read_of text) refl
  where
    by : (o : Read Scenario) → read_of text ≡ o → (printed : List ℕ) × Printed text printed
    by (wrong number place) e = (refused_line number place, unread number place e refl)
    by (right s) e = let (printed, p) = printed_of_met s.words s.names in (printed, read s e p)
