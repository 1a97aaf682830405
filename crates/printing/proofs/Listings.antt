-- What is shown of the lister's reply: the listing, which has room, where it is accepted, and else the line of the refusal.
use Prim.Native.Nat.{ℕ, ◌≤◌}
use mathlib.Core.Path.{◌≡◌, refl, ap}
use mathlib.Core.List.{List}
use native.Mathlib.Omega.{arith}
use lib.ListN.{take}
use borrow.Author.Tests.{eq-eqb, ne_eqb}
use Rattle.program.specs.Reply.{accepted}
use Rattle.program.specs.declared.reply.Reply.{Reply}
use Rattle.lister.specs.ListingPromise.{Refused, ListingPromise, faulty, misnamed, unlisted, over, listed}
use Rattle.printing.specs.Printed.{refused_line, table_room, listing_room, PrintedOf}

-- "0 when refused"
refused_count : {size room number place : ℕ} {reply : Reply} {table out : List ℕ} → Refused size room number place reply table out → reply.count ≡ 0
refused_count z = ap (λ (r : Reply). r.count) z.reply_is

-- no more bytes are counted than there is room for
pub count_fits : {words names : List ℕ} {size room : ℕ} {reply : Reply} {table out : List ℕ} → ListingPromise words names size room reply table out → reply.count ≤ room
count_fits (faulty number place f z) = omega (arith, refused_count z)
count_fits (misnamed p number place f w z) = omega (arith, refused_count z)
count_fits (unlisted p number place zeros f w a d z) = omega (arith, refused_count z)
count_fits (over p entries full a l z) = omega (arith, refused_count z)
count_fits (listed p entries a l e g) = omega (arith, ap (λ (r : Reply). r.count) e)

module _ {words names table out : List ℕ} {reply : Reply} (l : ListingPromise words names table_room listing_room reply table out) where
  pub listing_shown : reply.number ≡ accepted → PrintedOf words names (take reply.count out)
  listing_shown e = record { reply = reply; table = table; out = out; listed = l; shows = rw (eq-eqb reply.number accepted e) refl }

  pub refusal_shown : {printed : List ℕ} → (reply.number ≡ accepted → ⊥) → printed ≡ refused_line reply.number reply.place → PrintedOf words names printed
  refusal_shown d is = record { reply = reply; table = table; out = out; listed = l; shows = rw (ne_eqb reply.number accepted d) is }
