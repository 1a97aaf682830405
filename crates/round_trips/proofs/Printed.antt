-- What is printed: bytes above LF, which no cut at a tab or at LF goes through, in tokens of at most 16 bytes.
use Prim.Native.Nat.{ℕ, suc, ◌+◌, ◌*◌, ◌≤◌, ◌<◌}
use native.Mathlib.Omega.{arith}
use mathlib.Core.Path.{◌≡◌, refl, ap, ◌∙◌}
use mathlib.Core.Bool.{Bool, true, false, ◌&&◌, ◌||◌}
use mathlib.Core.List.{List, [], ◌∷◌, ◌++◌, append-nil, append_assoc}
use lib.ListN.{length, length-append}
use lib.Dec.{eqb, leb}
use borrow.Author.Tests.{eq-eqb, ne_eqb, leb-true, eqb-true}
use Rattle.program.specs.Within.{Each, none, more}
use Rattle.text.specs.Line.{line_feed, tab, parts}
use Rattle.text.specs.Name.{name_bytes}
use Rattle.text.specs.Token.{is_lower, is_digit, is_name_byte, every, is_name, lower_a, digit0, underscore}
use Rattle.written_lines.specs.Tokens.{behind_tabs, line}
use Rattle.round_trips.proofs.Tokens.{both_true}

-- bytes that stand in no cut
abbrev pub Bytes : List ℕ → Type 0
Bytes s = Each (λ b. line_feed < b) s

-- a token as it is printed
pub record Printed (s : List ℕ) : Type 0 where
  pub bytes : Bytes s
  pub short : length s ≤ name_bytes

pub each_append : {A : Type 0} {P : A → Type 0} (s t : List A) → Each P s → Each P t → Each P (s ++ t)
each_append [] t none f = f
each_append (b ∷ s) t (more h e) f = more h (each_append s t e f)

-- a cut at a byte that is none of those before it
pub parts_cut : (b : ℕ) (s rest : List ℕ) → Each (λ x. x ≡ b → ⊥) s → parts b (s ++ b ∷ rest) ≡ s ∷ parts b rest
parts_cut b [] rest none = rw (eq-eqb b b refl)
parts_cut b (x ∷ xs) rest (more h each) = rw (ne_eqb x b h, parts_cut b xs rest each)

-- nothing is cut
pub parts_uncut : (b : ℕ) (s : List ℕ) → Each (λ x. x ≡ b → ⊥) s → parts b s ≡ s ∷ []
parts_uncut b [] none = refl
parts_uncut b (x ∷ xs) (more h each) = rw (ne_eqb x b h, parts_uncut b xs each)

pub no_tab : (s : List ℕ) → Bytes s → Each (λ x. x ≡ tab → ⊥) s
no_tab [] none = none
no_tab (x ∷ xs) (more h each) = more (λ (e : x ≡ tab). omega arith) (no_tab xs each)

no_line_feed : (s : List ℕ) → Bytes s → Each (λ x. x ≡ line_feed → ⊥) s
no_line_feed [] none = none
no_line_feed (x ∷ xs) (more h each) = more (λ (e : x ≡ line_feed). omega arith) (no_line_feed xs each)

-- a line's fields are its keyword and its tokens
pub fields_cut : (keyword : List ℕ) (ss : List (List ℕ)) → Bytes keyword → Each Printed ss → parts tab (keyword ++ behind_tabs ss) ≡ keyword ∷ ss
fields_cut keyword [] k none = rw (append-nil keyword) (parts_uncut tab keyword (no_tab keyword k))
fields_cut keyword (s ∷ ss) k (more p each) =
    parts_cut tab keyword (s ++ behind_tabs ss) (no_tab keyword k) ∙ ap (λ (l : List (List ℕ)). keyword ∷ l) (fields_cut s ss p.bytes each)

-- no LF stands in a line before its end
behind_tabs_law : (ss : List (List ℕ)) → Each Printed ss → Each (λ x. x ≡ line_feed → ⊥) (behind_tabs ss)
behind_tabs_law [] none = none
behind_tabs_law (s ∷ ss) (more p each) = more (λ (e : tab ≡ line_feed). omega arith) (each_append s (behind_tabs ss) (no_line_feed s p.bytes) (behind_tabs_law ss each))

-- a line is cut off whole
pub line_cut : (keyword : List ℕ) (ss : List (List ℕ)) (rest : List ℕ) → Bytes keyword → Each Printed ss
    → parts line_feed (line keyword ss ++ rest) ≡ (keyword ++ behind_tabs ss) ∷ parts line_feed rest
line_cut keyword ss rest k each =
    rw (append_assoc (keyword ++ behind_tabs ss) (line_feed ∷ []) rest) (parts_cut line_feed (keyword ++ behind_tabs ss) rest (each_append keyword (behind_tabs ss) (no_line_feed keyword k) (behind_tabs_law ss each)))

-- a name's bytes
lower_above : (b : ℕ) → is_lower b ≡ true → line_feed < b
lower_above b e = omega (arith, leb-true lower_a b (both_true _ _ e).0)

name_byte_above : (b : ℕ) → is_name_byte b ≡ true → line_feed < b
name_byte_above b e = go (is_lower b) refl (is_digit b) refl e
  where
    go : (t : Bool) → is_lower b ≡ t → (u : Bool) → is_digit b ≡ u → t || (u || eqb b underscore) ≡ true → line_feed < b
    go true e u f g = lower_above b e
    go false e true f g = omega (arith, leb-true digit0 b (both_true _ _ f).0)
    go false e false f g = omega (arith, eqb-true b underscore g)

every_above : (s : List ℕ) → every is_name_byte s ≡ true → Bytes s
every_above [] e = none
every_above (b ∷ bs) e = let parts = both_true (is_name_byte b) (every is_name_byte bs) e in more (name_byte_above b parts.0) (every_above bs parts.1)

pub name_printed : (s : List ℕ) → is_name s ≡ true → Printed s
name_printed [] e = absurd (let z : ◌≡◌ {A = ℕ} 0 1 = cc in omega arith)
name_printed (b ∷ bs) e =
    let parts = both_true (is_lower b) (leb (length (b ∷ bs)) name_bytes && every is_name_byte bs) e in
    let others = both_true (leb (length (b ∷ bs)) name_bytes) (every is_name_byte bs) parts.1 in
    record { bytes = more (lower_above b parts.0) (every_above bs others.1); short = leb-true _ name_bytes others.0 }

-- how long a line is
pub tabs_length : (ss : List (List ℕ)) → Each Printed ss → length (behind_tabs ss) ≤ suc name_bytes * length ss
tabs_length [] none = omega arith
tabs_length (s ∷ ss) (more p each) =
    let others : length (behind_tabs ss) ≤ 17 * length ss = tabs_length ss each in
    let both : length (s ++ behind_tabs ss) ≡ length s + length (behind_tabs ss) = length-append s (behind_tabs ss) in
    omega (arith, p.short)

pub line_length : (keyword : List ℕ) (ss : List (List ℕ)) → length (line keyword ss) ≡ length keyword + length (behind_tabs ss) + 1
line_length keyword ss = rw (length-append (keyword ++ behind_tabs ss) (line_feed ∷ []), length-append keyword (behind_tabs ss))
