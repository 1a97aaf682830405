-- The promise of the lister: no second reply, table or listing meets it, and for every input and every room some do.
use Prim.Native.Nat.{ℕ, ◌≤◌, ◌<◌}
use native.Mathlib.Omega.{arith}
use native.Mathlib.Decide.{dec_le}
use mathlib.Core.Path.{ap₂, ◌≡◌, refl, sym, ap, ◌∙◌}
use mathlib.Core.List.{List}
use lib.ListN.{length, replicate}
use Rattle.program.specs.Program.{Program}
use Rattle.program.specs.Faults.{Found, fault, sound, faults}
use Rattle.program.specs.Reply.{accepted, no_room, refused, done}
use Rattle.program.specs.declared.reply.Reply.{Reply}
use Rattle.table.specs.Promise.{faulty as promise-faulty, listed as promise-listed, full}
use Rattle.table.specs.Table.{Entry, Promise}
use Rattle.program.proofs.FoundLaws.{fault_or_sound, sound_same}
use Rattle.table.proofs.Promise.{table_once, promise_unique, promise_met}
use Rattle.text.specs.Room.{in_room}
use Rattle.writer.specs.Names.{names_reply}
use Rattle.writer.proofs.Answers.{names_right}
use Rattle.cells.specs.TextSoFar.{Read, wrong, right}
use Rattle.cells.proofs.Readings.{wrong_or_right}
use Rattle.lister.specs.Listing.{listing_of}
use Rattle.lister.specs.ListingPromise.{names_for, Refused, Rows, ListingPromise, faulty, misnamed, unlisted, over, listed}

-- one number and one place make one refusal
refused_once : {size room number place : ℕ} {r r' : Reply} {t t' o o' : List ℕ} → Refused size room number place r t o → Refused size room number place r' t' o'
    → (r ≡ r') × (t ≡ t') × (o ≡ o')
refused_once a b = (a.reply_is ∙ sym b.reply_is, a.table_zero ∙ sym b.table_zero, a.out_zero ∙ sym b.out_zero)

-- names are sound or not
module _ (words names : List ℕ) (size room : ℕ) where
  named_once : {p p' : Program} {number place : ℕ} → faults words ≡ sound p → faults words ≡ sound p' → names_for p names ≡ wrong number place → names_for p' names ≡ right names → ⊥
  named_once f f' w n = wrong_or_right _ (rw (sound_same _ f f') at w) n

  -- the analysis is refused or not
  refused_or_done : {number place : ℕ} {t t' : List ℕ} (n : ℕ) → Promise words size (refused number place) t → Promise words size (done n) t' → (number ≡ accepted → ⊥) → ⊥
  refused_or_done n a b d = d (ap (λ (x : Reply). x.number) (promise_unique words size _ _ _ _ a b).0)

  rows_once : {t t' : List ℕ} {p p' : Program} {es es' : List Entry} → Rows words names size t p es → Rows words names size t' p' es' → (p ≡ p') × (es ≡ es') × (t ≡ t')
  rows_once {es = es} {es' = es'} a b =
      let same = sound_same _ a.program b.program in
      let one = table_once _ es es' (rw same at a.rows) b.rows in
      (same, one, (promise_unique words size _ _ _ _ a.analysed b.analysed).1)

  listing_once : {t t' : List ℕ} {p p' : Program} {es es' : List Entry} → Rows words names size t p es → Rows words names size t' p' es' → listing_of p names es ≡ listing_of p' names es'
  listing_once a b = let (d, e, _) = rows_once a b in ap₂ (λ (q : Program) (f : List Entry). listing_of q names f) d e

  over_or_listed : {t t' : List ℕ} {p p' : Program} {es es' : List Entry} → Rows words names size t p es → Rows words names size t' p' es'
      → room < length (listing_of p names es) → length (listing_of p' names es') ≤ room → ⊥
  over_or_listed a b l m = let e = ap length (listing_once a b) in omega arith

  -- "show that no second reply satisfies it": and no second table, and no second listing
  pub listed_unique : (r r' : Reply) (t t' o o' : List ℕ) → ListingPromise words names size room r t o → ListingPromise words names size room r' t' o'
      → (r ≡ r') × (t ≡ t') × (o ≡ o')
  listed_unique r r' t t' o o' (faulty n q f z) (faulty n' q' f' z') = refused_once z (same_fault (sym f ∙ f') z')
    where
      same_fault : ◌≡◌ {A = Found Program} (fault n q) (fault n' q') → Refused size room n' q' r' t' o' → Refused size room n q r' t' o'
      same_fault e z = let a : n' ≡ n = cc in let b : q' ≡ q = cc in rw (a, b) at z
  listed_unique r r' t t' o o' (faulty n q f z) (misnamed p n' q' f' w z') = absurd (fault_or_sound _ f f')
  listed_unique r r' t t' o o' (faulty n q f z) (unlisted p n' q' ze f' w a d z') = absurd (fault_or_sound _ f f')
  listed_unique r r' t t' o o' (faulty n q f z) (over p es fu a l z') = absurd (fault_or_sound _ f a.program)
  listed_unique r r' t t' o o' (faulty n q f z) (listed p es a l e g) = absurd (fault_or_sound _ f a.program)
  listed_unique r r' t t' o o' (misnamed p n q f w z) (faulty n' q' f' z') = absurd (fault_or_sound _ f' f)
  listed_unique r r' t t' o o' (misnamed p n q f w z) (misnamed p' n' q' f' w' z') =
      refused_once z (same_wrong (sym (rw (sound_same _ f f') at w) ∙ w') z')
    where
      same_wrong : ◌≡◌ {A = Read (List ℕ)} (wrong n q) (wrong n' q') → Refused size room n' q' r' t' o' → Refused size room n q r' t' o'
      same_wrong e z = let a : n' ≡ n = cc in let b : q' ≡ q = cc in rw (a, b) at z
  listed_unique r r' t t' o o' (misnamed p n q f w z) (unlisted p' n' q' ze f' w' a d z') = absurd (named_once f f' w w')
  listed_unique r r' t t' o o' (misnamed p n q f w z) (over p' es fu a l z') = absurd (named_once f a.program w a.named)
  listed_unique r r' t t' o o' (misnamed p n q f w z) (listed p' es a l e g) = absurd (named_once f a.program w a.named)
  listed_unique r r' t t' o o' (unlisted p n q ze f w a d z) (faulty n' q' f' z') = absurd (fault_or_sound _ f' f)
  listed_unique r r' t t' o o' (unlisted p n q ze f w a d z) (misnamed p' n' q' f' w' z') = absurd (named_once f' f w' w)
  listed_unique r r' t t' o o' (unlisted p n q ze f w a d z) (unlisted p' n' q' ze' f' w' a' d' z') =
      (z.reply_is ∙ (promise_unique words size _ _ _ _ a a').0 ∙ sym z'.reply_is, z.table_zero ∙ sym z'.table_zero, z.out_zero ∙ sym z'.out_zero)
  listed_unique r r' t t' o o' (unlisted p n q ze f w a d z) (over p' es fu b l z') = absurd (refused_or_done _ a b.analysed d)
  listed_unique r r' t t' o o' (unlisted p n q ze f w a d z) (listed p' es b l e g) = absurd (refused_or_done _ a b.analysed d)
  listed_unique r r' t t' o o' (over p es fu a l z) (faulty n' q' f' z') = absurd (fault_or_sound _ f' a.program)
  listed_unique r r' t t' o o' (over p es fu a l z) (misnamed p' n' q' f' w' z') = absurd (named_once f' a.program w' a.named)
  listed_unique r r' t t' o o' (over p es fu a l z) (unlisted p' n' q' ze' f' w' b d' z') = absurd (refused_or_done _ b a.analysed d')
  listed_unique r r' t t' o o' (over p es fu a l z) (over p' es' fu' b l' z') = refused_once z z'
  listed_unique r r' t t' o o' (over p es fu a l z) (listed p' es' b l' e g) = absurd (over_or_listed a b l l')
  listed_unique r r' t t' o o' (listed p es a l e g) (faulty n' q' f' z') = absurd (fault_or_sound _ f' a.program)
  listed_unique r r' t t' o o' (listed p es a l e g) (misnamed p' n' q' f' w' z') = absurd (named_once f' a.program w' a.named)
  listed_unique r r' t t' o o' (listed p es a l e g) (unlisted p' n' q' ze' f' w' b d' z') = absurd (refused_or_done _ b a.analysed d')
  listed_unique r r' t t' o o' (listed p es a l e g) (over p' es' fu' b l' z') = absurd (over_or_listed b a l' l)
  listed_unique r r' t t' o o' (listed p es a l e g) (listed p' es' b l' e' g') =
      let same = listing_once a b in (e ∙ ap (λ (l : List ℕ). done (length l)) same ∙ sym e', (rows_once a b).2, g ∙ ap (in_room room) same ∙ sym g')

  abbrev pub Met : Type 0
  Met = (r : Reply) × (t : List ℕ) × (o : List ℕ) × ListingPromise words names size room r t o

  -- "For all inputs, refused ones too, a public function's promise determines reply and every lent word afterwards": it has a reply, a table and a listing
  pub listed_met : Met
  listed_met = found (faults words) refl
    where
      zeros : (number place : ℕ) → Refused size room number place (refused number place) (replicate size 0) (replicate room 0)
      zeros number place = record { reply_is = refl; table_zero = refl; out_zero = refl }

      fits : (p : Program) (entries : List Entry) (t : List ℕ) → Rows words names size t p entries → Dec (length (listing_of p names entries) ≤ room) → Met
      fits p entries t rows (yes l) = (_, _, _, listed p entries rows l refl refl)
      fits p entries t rows (no g) = (_, _, _, over p entries t rows (omega arith) (zeros no_room room))

      analysed : (p : Program) → faults words ≡ sound p → names_for p names ≡ right names → (r : Reply) (t : List ℕ) → Promise words size r t → Met
      analysed p f n r t (promise-faulty number place f' e z) = absurd (fault_or_sound _ f' f)
      analysed p f n r t (promise-listed p' entries f' h l e z) =
          fits p' entries t (record { program = f'; named = rw (sound_same _ f f') at n; rows = h; analysed = promise-listed p' entries f' h l refl z }) (dec_le (length (listing_of p' names entries)) room)
      analysed p f n r t (full p' f' h e z) = (_, _, _, unlisted p _ _ t f n (full p' f' h refl z) (λ d. omega arith) (zeros _ _))

      named : (p : Program) → faults words ≡ sound p → (x : Read (List ℕ)) → names_for p names ≡ x → Met
      named p f (wrong number place) w = (_, _, _, misnamed p number place f w (zeros number place))
      named p f (right ns) w = let (r, t, a) = promise_met words size in analysed p f (names_right names _ _ (ap (λ x. (names_reply x).number) w)) r t a

      found : (f : Found Program) → faults words ≡ f → Met
      found (fault number place) f = (_, _, _, faulty number place f (zeros number place))
      found (sound p) f = named p f (names_for p names) refl
