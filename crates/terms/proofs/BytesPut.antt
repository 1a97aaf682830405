-- Words and sets in bytes: as they are put, as they stay, and bytes put behind others.
use Prim.Native.Nat.{ℕ, ◌+◌, ◌*◌, ◌/◌, ◌%◌, ◌^◌, ◌≤◌, ◌<◌}
use native.Mathlib.Omega.{arith}
use mathlib.Core.Path.{◌≡◌, refl, ◌∙◌}
use mathlib.Core.List.{List}
use lib.ListN.{length, get_or, set, length-set}
use lib.Seq.{get_or-set_same, get_or-set_other}
use borrow.Rule.Slice.PartMut.{put_mid}
use Rattle.std.proofs.Common.{rules, w16, w32}
use Rattle.std.specs.Int.{to_le_bytes}
use Rattle.std.proofs.lemmas.List.{places}
use Rattle.terms.specs.Bytes.{word_at, noted_set, BytesPut, WordPut, SetPut}

pub word_is : (bytes : List ℕ) (i : ℕ) → word_at bytes i ≡ get_or bytes i 0 + 256 * get_or bytes (i + 1) 0
unfolding word_at
word_is bytes i = refl

pub set_is : (bytes : List ℕ) (i : ℕ) → noted_set bytes i ≡ word_at bytes i + 65536 * word_at bytes (i + 2)
unfolding noted_set
set_is bytes i = refl

-- only the bytes of a word matter, and those of a set
pub word_stays : (bytes bytes' : List ℕ) (i : ℕ) → ((j : ℕ) → i ≤ j → j < i + 2 → get_or bytes' j 0 ≡ get_or bytes j 0) → word_at bytes' i ≡ word_at bytes i
word_stays bytes bytes' i same =
    omega (arith, word_is bytes i, word_is bytes' i, same i (omega arith) (omega arith), same (i + 1) (omega arith) (omega arith))

pub set_stays : (bytes bytes' : List ℕ) (i : ℕ) → ((j : ℕ) → i ≤ j → j < i + 4 → get_or bytes' j 0 ≡ get_or bytes j 0) → noted_set bytes' i ≡ noted_set bytes i
set_stays bytes bytes' i same =
    let low : word_at bytes' i ≡ word_at bytes i = word_stays bytes bytes' i (λ j l h. same j l (omega arith)) in
    let high : word_at bytes' (i + 2) ≡ word_at bytes (i + 2) = word_stays bytes bytes' (i + 2) (λ j l h. same j (omega arith) (omega arith)) in
    omega (arith, set_is bytes i, set_is bytes' i)

-- bytes are put behind others
pub put_then : {before bytes after : List ℕ} {at count mid more all : ℕ} → BytesPut before bytes at count → BytesPut bytes after mid more
    → mid ≡ at + count → all ≡ count + more → BytesPut before after at all
put_then p q behind total =
    record {
      size = q.size ∙ p.size;
      earlier = λ j l. q.earlier j (omega arith) ∙ p.earlier j l;
      later = λ j l. q.later j (omega arith) ∙ p.later j (omega arith);
    }

-- a byte
pub byte_put : (bytes : List ℕ) (i b : ℕ) → BytesPut bytes (set bytes i b) i 1
byte_put bytes i b =
    record {
      size = length-set bytes i b;
      earlier = λ j l. get_or-set_other bytes i j b 0 (λ e. omega arith);
      later = λ j l. get_or-set_other bytes i j b 0 (λ e. omega arith);
    }

-- the two bytes of a word
module _ (bytes : List ℕ) (i word : ℕ) (there : i + 2 ≤ length bytes) where
  abbrev low_put : List ℕ
  low_put = set bytes i (word % 256)

  pub bytes_are_word : WordPut bytes (set (set bytes i (word % 256)) (i + 1) (word / 256)) i word
  bytes_are_word =
      record {
        put = put_then (byte_put bytes i (word % 256)) (byte_put low_put (i + 1) (word / 256)) refl refl;
        is = omega (
          arith,
          word_is (set low_put (i + 1) (word / 256)) i,
          get_or-set_same bytes i (word % 256) 0 (omega arith),
          (byte_put low_put (i + 1) (word / 256)).earlier i (omega arith),
          get_or-set_same low_put (i + 1) (word / 256) 0 (omega (arith, length-set bytes i (word % 256))),
        );
      }

-- the two words of a set
pub words_are_set : {before bytes after : List ℕ} {i set : ℕ} → WordPut before bytes i (set % 65536) → WordPut bytes after (i + 2) (set / 65536) → SetPut before after i set
words_are_set {before} {bytes} {after} {i} {set} p q =
    let low : word_at after i ≡ word_at bytes i = word_stays bytes after i (λ j l h. q.put.earlier j h) in
    record { put = put_then p.put q.put refl refl; is = omega (arith, set_is after i, p.is, q.is) }

-- a part of the bytes, as `bytes[i..i + n].copy_from_slice(part)` puts it
part_put : (bytes part : List ℕ) (i k : ℕ) → i + k ≤ length bytes → length part ≡ k → BytesPut bytes (put_mid i k bytes part) i k
part_put bytes part i k room long =
    record { size = search (rules, places); earlier = λ j l. search (rules, places); later = λ j l. search (rules, places) }

part_at : (bytes part : List ℕ) (i k j n : ℕ) → i + k ≤ length bytes → length part ≡ k → j < k → n ≡ i + j → get_or (put_mid i k bytes part) n 0 ≡ get_or part j 0
part_at bytes part i k j n room long l e = rw e (search (rules, places))

-- the two bytes of a word, and the four of a set
pub word_put : (bytes part : List ℕ) (i k word : ℕ) → k ≡ 2 → i + 2 ≤ length bytes → word < 65536 → part ≡ to_le_bytes w16 word
    → WordPut bytes (put_mid i k bytes part) i word
word_put bytes part i k word two room small is =
    let at = λ (j n : ℕ) (l : j < 2) (e : n ≡ i + j). part_at bytes (to_le_bytes w16 word) i 2 j n room refl l e in
    rw (two, is) (record {
      put = part_put bytes (to_le_bytes w16 word) i 2 room refl;
      is = omega (arith, word_is (put_mid i 2 bytes (to_le_bytes w16 word)) i, at 0 i (omega arith) (omega arith), at 1 (i + 1) (omega arith) refl);
    })

pub set_put : (bytes part : List ℕ) (i k set : ℕ) → k ≡ 4 → i + 4 ≤ length bytes → set < 2 ^ 32 → part ≡ to_le_bytes w32 set
    → SetPut bytes (put_mid i k bytes part) i set
set_put bytes part i k set four room small is =
    let after = put_mid i 4 bytes (to_le_bytes w32 set) in
    let at = λ (j n : ℕ) (l : j < 4) (e : n ≡ i + j). part_at bytes (to_le_bytes w32 set) i 4 j n room refl l e in
    rw (four, is) (record {
      put = part_put bytes (to_le_bytes w32 set) i 4 room refl;
      is = omega (
        arith,
        set_is after i,
        word_is after i,
        word_is after (i + 2),
        at 0 i (omega arith) (omega arith),
        at 1 (i + 1) (omega arith) refl,
        at 2 (i + 2) (omega arith) refl,
        at 3 (i + 2 + 1) (omega arith) (omega arith),
      );
    })
