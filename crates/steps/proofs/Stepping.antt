-- Steps of a round: nothing, one row, one step after another; and what stays under them.
use Prim.Native.Nat.{ℕ, ◌*◌, ◌≤◌, ◌<◌}
use native.Mathlib.Omega.{arith}
use native.Mathlib.Decide.{dec_lt}
use native.Mathlib.Nat.{le_trans}
use mathlib.Core.Path.{◌≡◌, refl, ◌∙◌}
use mathlib.Core.Logic.{◌⊎◌, inl, inr, ⊎_elim}
use mathlib.Core.List.Memᴰ
use mathlib.Core.List.{List, Memᴰ}
use lib.ListN.{length}
use Rattle.program.specs.Limits.{row_size}
use Rattle.rows.specs.Rows.{round_at, keys_of, key_of}
use Rattle.rows.specs.Store.{SameRows, Added, there, new, full}
use Rattle.rows.proofs.Keys.{same_keys, keys_length}
use Rattle.rows.proofs.Adding.{same_key}
use Rattle.table.proofs.Added.{behind_same, behind_one, behind_then, behind_wider, behind_keeps}
use Rattle.steps.specs.Steps.{Writable, Grew, Overfull, Stepped}

pub same_rows_then : (table table' table'' : List ℕ) (n n' : ℕ) → n ≤ n' → SameRows table table' n → SameRows table' table'' n' → SameRows table table'' n
same_rows_then table table' table'' n n' l s s' i h = s' i (le_trans h (omega arith)) ∙ s i h

-- the keys of the first rows stay
pub keys_stay : (table table' : List ℕ) (n m : ℕ) → m ≤ n → SameRows table table' n → keys_of table' m ≡ keys_of table m
keys_stay table table' n m l s = same_keys table table' m (λ r h. same_key table table' n s r (omega arith))

module _ (May : ℕ → Type 0) (round room : ℕ) where
  -- nothing to do: all that must be is there
  pub grew_none : (n : ℕ) (table buckets : List ℕ) (Must : ℕ → Type 0) → Writable table buckets n room
      → ((key : ℕ) → Must key → Memᴰ key (keys_of table n)) → Grew May round room n table buckets Must n table buckets
  grew_none n table buckets Must w all =
      record {
        writable = w;
        more = omega arith;
        same_rows = λ i h. refl;
        same_length = refl;
        rounds = λ r h l. absurd (omega arith);
        behind = behind_same (keys_of table n) May;
        all = all;
      }

  -- one step after another
  pub grew_then : (n n' n'' : ℕ) (table buckets table' buckets' table'' buckets'' : List ℕ) (Must Must' : ℕ → Type 0)
      → Grew May round room n table buckets Must n' table' buckets' → Grew May round room n' table' buckets' Must' n'' table'' buckets''
      → Grew May round room n table buckets (λ key. Must key ⊎ Must' key) n'' table'' buckets''
  grew_then n n' n'' table buckets table' buckets' table'' buckets'' Must Must' g h =
      record {
        writable = h.writable;
        more = omega (arith, g.more, h.more);
        same_rows = same_rows_then table table' table'' n n' g.more g.same_rows h.same_rows;
        same_length = h.same_length ∙ g.same_length;
        rounds = λ r l m. at r l m (dec_lt r n');
        behind = behind_wider (λ k. ⊎_elim (λ x. x) (λ x. x)) (behind_then g.behind h.behind);
        all = λ key. ⊎_elim (λ m. behind_keeps (keys_of table' n') May (keys_of table'' n'') h.behind key (g.all key m)) (h.all key);
      }
    where
      at : (r : ℕ) → n ≤ r → r < n'' → Dec (r < n') → round_at table'' r ≡ round
      at r l m (yes k) = h.same_rows (row_size * r) (omega arith) ∙ g.rounds r l k
      at r l m (no k) = h.rounds r (omega arith) m

  pub grew_must : (n n' : ℕ) (table buckets table' buckets' : List ℕ) (Must Must' : ℕ → Type 0) → ((key : ℕ) → Must' key → Must key)
      → Grew May round room n table buckets Must n' table' buckets' → Grew May round room n table buckets Must' n' table' buckets'
  grew_must n n' table buckets table' buckets' Must Must' w g =
      record {
        writable = g.writable;
        more = g.more;
        same_rows = g.same_rows;
        same_length = g.same_length;
        rounds = g.rounds;
        behind = g.behind;
        all = λ key m. g.all key (w key m);
      }

  -- steps that are done, and a step that finds the room full
  pub grew_overfull : (n n' n'' : ℕ) (table buckets table' buckets' : List ℕ) (Must : ℕ → Type 0)
      → Grew May round room n table buckets Must n' table' buckets' → Overfull May room n' table' n'' → Overfull May room n table n''
  grew_overfull n n' n'' table buckets table' buckets' Must g o =
      record {
        over = o.over;
        kept = o.kept;
        full =
            record {
              behind = behind_wider (λ k. ⊎_elim (λ x. x) (λ x. x)) (behind_then g.behind o.full.behind);
              at_room = o.full.at_room;
              left = o.full.left;
              left_of = o.full.left_of;
              left_out = o.full.left_out;
            };
      }

  pub stepped_none : (n : ℕ) (table buckets : List ℕ) (Must : ℕ → Type 0) → Writable table buckets n room
      → ((key : ℕ) → Must key → Memᴰ key (keys_of table n)) → Stepped May round room n table buckets Must n table buckets
  stepped_none n table buckets Must w all = inl (grew_none n table buckets Must w all)

  pub stepped_must : (n n' : ℕ) (table buckets table' buckets' : List ℕ) (Must Must' : ℕ → Type 0) → ((key : ℕ) → Must' key → Must key)
      → Stepped May round room n table buckets Must n' table' buckets' → Stepped May round room n table buckets Must' n' table' buckets'
  stepped_must n n' table buckets table' buckets' Must Must' w =
      ⊎_elim (λ g. inl (grew_must n n' table buckets table' buckets' Must Must' w g)) inr

  -- one step after another
  pub stepped_then : (n n' n'' : ℕ) (table buckets table' buckets' table'' buckets'' : List ℕ) (Must Must' : ℕ → Type 0)
      → Grew May round room n table buckets Must n' table' buckets' → Stepped May round room n' table' buckets' Must' n'' table'' buckets''
      → Stepped May round room n table buckets (λ key. Must key ⊎ Must' key) n'' table'' buckets''
  stepped_then n n' n'' table buckets table' buckets' table'' buckets'' Must Must' g =
      ⊎_elim
      (λ h. inl (grew_then n n' n'' table buckets table' buckets' table'' buckets'' Must Must' g h))
      (λ o. inr (grew_overfull n n' n'' table buckets table' buckets' Must g o.0, o.1 ∙ g.same_length))

  -- a step whose answer is within the room has grown; one past it is overfull
  pub stepped_within : (n n' : ℕ) (table buckets table' buckets' : List ℕ) (Must : ℕ → Type 0)
      → Stepped May round room n table buckets Must n' table' buckets' → n' ≤ room → Grew May round room n table buckets Must n' table' buckets'
  stepped_within n n' table buckets table' buckets' Must (inl g) h = g
  stepped_within n n' table buckets table' buckets' Must (inr o) h = absurd (omega (arith, o.0.over))

  pub stepped_past : (n n' : ℕ) (table buckets table' buckets' : List ℕ) (Must : ℕ → Type 0)
      → Stepped May round room n table buckets Must n' table' buckets' → room < n' → Overfull May room n table n' × (length table' ≡ length table)
  stepped_past n n' table buckets table' buckets' Must (inl g) h = absurd (omega (arith, g.writable.within))
  stepped_past n n' table buckets table' buckets' Must (inr o) h = o

  -- what was overfull stays so, whatever else must be
  pub overfull_stepped : (n n' : ℕ) (table buckets table' buckets' : List ℕ) (Must : ℕ → Type 0)
      → Overfull May room n table n' × (length table' ≡ length table) → Stepped May round room n table buckets Must n' table' buckets'
  overfull_stepped n n' table buckets table' buckets' Must o = inr o

  -- one row added, which it may
  pub added_stepped : (n slot mask r : ℕ) (table buckets table' buckets' : List ℕ) → Writable table buckets n room
      → May (key_of slot mask) → Added table buckets n room round slot mask r table' buckets' → length table' ≡ length table
      → Stepped May round room n table buckets (λ key. key ≡ key_of slot mask) r table' buckets'
  added_stepped n slot mask r table buckets table' buckets' w given (there m e t b) l =
      rw (e, t, b) (stepped_none n table buckets (λ key. key ≡ key_of slot mask) w (λ key q. Memᴰ.cast q m))
  added_stepped n slot mask r table buckets table' buckets' w given (new out h e g) l =
      rw e
      (inl
      (record {
        writable = record { store = g.store; within = omega arith; room_most = w.room_most; room_there = rw l w.room_there };
        more = omega arith;
        same_rows = g.same_rows;
        same_length = l;
        rounds = λ i k m. let q : i ≡ n = omega arith in rw q g.its_round;
        behind = rw g.keys (behind_wider (λ k q. rw q given) (behind_one (keys_of table n) (key_of slot mask) out));
        all = λ key q. rw g.keys (Memᴰ.append_right (keys_of table n) (Memᴰ.head q));
      }))
  added_stepped n slot mask r table buckets table' buckets' w given (full out h e t b) l =
      inr (
        record {
          over = e;
          kept = keys_of table n;
          full =
              record {
                behind = behind_same (keys_of table n) May;
                at_room = keys_length table n ∙ h;
                left = key_of slot mask;
                left_of = given;
                left_out = out;
              };
        },
        l,
      )
