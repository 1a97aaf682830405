-- The text so far as its sections: how many lines each has, what they say and how they are written. One line more is one law, whatever the section.
use Prim.Native.Nat.{ℕ, zero, suc, ◌+◌}
use mathlib.Core.Path.{◌≡◌, refl, sym, ap, ◌∙◌}
use mathlib.Core.List.{List, [], ◌∷◌, ◌++◌, append-nil, append_assoc}
use lib.ListN.{length, length-append}
use Rattle.cells.specs.TextSoFar.{TextSoFar, one_more, with_line}
use Rattle.written_lines.specs.Tokens.{line}
use Rattle.written_lines.specs.Lines.{section}
use Rattle.written_lines.proofs.LineTexts.{section_one}

pub record Section : Type 0 where
  pub lines : ℕ
  pub words : List ℕ
  pub text : List ℕ

abbrev pub counts_in : List Section → List ℕ
counts_in [] = []
counts_in (s ∷ ss) = s.lines ∷ counts_in ss

-- the words of sections, and then the rest
abbrev pub words_before : List Section → List ℕ → List ℕ
words_before [] rest = rest
words_before (s ∷ ss) rest = s.words ++ words_before ss rest

-- their text, and then the rest
abbrev pub text_before : List Section → List ℕ → List ℕ
text_before [] rest = rest
text_before (s ∷ ss) rest = s.text ++ text_before ss rest

pub words_behind : (ss : List Section) (xs ys : List ℕ) → words_before ss xs ++ ys ≡ words_before ss (xs ++ ys)
words_behind [] xs ys = refl
words_behind (s ∷ ss) xs ys = append_assoc s.words (words_before ss xs) ys ∙ ap (λ (l : List ℕ). s.words ++ l) (words_behind ss xs ys)

pub text_behind : (ss : List Section) (xs ys : List ℕ) → text_before ss xs ++ ys ≡ text_before ss (xs ++ ys)
text_behind [] xs ys = refl
text_behind (s ∷ ss) xs ys = append_assoc s.text (text_before ss xs) ys ∙ ap (λ (l : List ℕ). s.text ++ l) (text_behind ss xs ys)

-- the text so far, as the reader has it and as bytes, is that of these sections
pub record SoFar (t : TextSoFar) (text : List ℕ) (ss : List Section) : Type 0 where
  pub lines : t.lines ≡ counts_in ss
  pub words : t.words ≡ words_before ss []
  pub written : text ≡ text_before ss []

-- a section with one line more
abbrev pub grown : Section → List ℕ → List ℕ → Section
grown s words text = record { lines = s.lines + 1; words = s.words ++ words; text = s.text ++ text }

-- sections without a line
abbrev pub empties : ℕ → List Section
empties zero = []
empties (suc n) = record { lines = 0; words = []; text = [] } ∷ empties n

no_words : (n : ℕ) → words_before (empties n) [] ≡ []
no_words zero = refl
no_words (suc n) = no_words n

no_text : (n : ℕ) → text_before (empties n) [] ≡ []
no_text zero = refl
no_text (suc n) = no_text n

line_counted : (front : List Section) (s : Section) (behind : List Section) (words text : List ℕ)
    → one_more (counts_in (front ++ s ∷ behind)) (length front) ≡ counts_in (front ++ grown s words text ∷ behind)
line_counted [] s behind words text = refl
line_counted (f ∷ front) s behind words text = ap (λ (l : List ℕ). f.lines ∷ l) (line_counted front s behind words text)

words_added : (front : List Section) (s : Section) (n : ℕ) (words text : List ℕ)
    → words_before (front ++ s ∷ empties n) [] ++ words ≡ words_before (front ++ grown s words text ∷ empties n) []
words_added [] s n words text =
    rw (no_words n, append-nil s.words, append-nil (s.words ++ words))
words_added (f ∷ front) s n words text =
    append_assoc f.words (words_before (front ++ s ∷ empties n) []) words ∙ ap (λ (l : List ℕ). f.words ++ l) (words_added front s n words text)

text_added : (front : List Section) (s : Section) (n : ℕ) (words text : List ℕ)
    → text_before (front ++ s ∷ empties n) [] ++ text ≡ text_before (front ++ grown s words text ∷ empties n) []
text_added [] s n words text =
    rw (no_text n, append-nil s.text, append-nil (s.text ++ text))
text_added (f ∷ front) s n words text =
    append_assoc f.text (text_before (front ++ s ∷ empties n) []) text ∙ ap (λ (l : List ℕ). f.text ++ l) (text_added front s n words text)

-- (line) one line more of a section, where no line stands behind it
pub line_added : (t : TextSoFar) (text : List ℕ) (front : List Section) (s : Section) (n : ℕ) (names words more : List ℕ)
    → SoFar t text (front ++ s ∷ empties n) → SoFar (with_line t (length front) names words) (text ++ more) (front ++ grown s words more ∷ empties n)
line_added t text front s n names words more so =
    record {
      lines = ap (λ (l : List ℕ). one_more l (length front)) so.lines ∙ line_counted front s (empties n) words more;
      words = ap (λ (l : List ℕ). l ++ words) so.words ∙ words_added front s n words more;
      written = ap (λ (l : List ℕ). l ++ more) so.written ∙ text_added front s n words more;
    }

-- the text so far behind sections
abbrev pub behind_sections : List ℕ → List Section → TextSoFar
behind_sections names ss = record { lines = counts_in ss; names = names; words = words_before ss [] }

words_last : (front : List Section) (s : Section) → words_before front s.words ≡ words_before (front ++ s ∷ []) []
words_last [] s = sym (append-nil s.words)
words_last (x ∷ front) s = ap (λ (l : List ℕ). x.words ++ l) (words_last front s)

-- within a section: what stands before it, so many of its own lines with their words, and so many sections that have no line yet
abbrev pub in_section : List ℕ → List Section → ℕ → ℕ → List ℕ → TextSoFar
in_section names front n lines words =
    record { lines = counts_in front ++ lines ∷ counts_in (empties n); names = names; words = words_before front words }

-- the end of a section is the start of the next
pub next_section : (names : List ℕ) (front : List Section) (n : ℕ) (s : Section)
    → in_section names front (suc n) s.lines s.words ≡ in_section names (front ++ s ∷ []) n 0 []
next_section names front n s = λ i. record { lines = lines front i; names = names; words = words_last front s i }
  where
    lines : (f : List Section) → counts_in f ++ s.lines ∷ 0 ∷ counts_in (empties n) ≡ counts_in (f ++ s ∷ []) ++ 0 ∷ counts_in (empties n)
    lines [] = refl
    lines (x ∷ f) = ap (λ (l : List ℕ). x.lines ∷ l) (lines f)

-- and behind the last all sections are read
pub last_section : (names : List ℕ) (front : List Section) (s : Section) → in_section names front 0 s.lines s.words ≡ behind_sections names (front ++ s ∷ [])
last_section names front s = λ i. record { lines = lines front i; names = names; words = words_last front s i }
  where
    lines : (f : List Section) → counts_in f ++ s.lines ∷ [] ≡ counts_in (f ++ s ∷ [])
    lines [] = refl
    lines (x ∷ f) = ap (λ (l : List ℕ). x.lines ∷ l) (lines f)

-- A section of items: what the words of an item are, and the fields of its line.
pub record Items (A : Type 0) : Type 0 where
  pub keyword : List ℕ
  pub fields : ℕ → A → List (List ℕ)
  pub word : A → List ℕ
  pub words : List A → List ℕ
  pub none : words [] ≡ []
  pub first : (a : A) (items : List A) → words (a ∷ items) ≡ word a ++ words items

module _ {A : Type 0} (k : Items A) where
  abbrev pub section_of : ℕ → List A → Section
  section_of i items = record { lines = length items; words = k.words items; text = section k.keyword k.fields i items }

  words_one : (items : List A) (a : A) → k.words items ++ k.word a ≡ k.words (items ++ a ∷ [])
  words_one [] a = rw (k.none, k.first a [], k.none) (sym (append-nil (k.word a)))
  words_one (b ∷ items) a =
      rw (k.first b items, k.first b (items ++ a ∷ []))
      (append_assoc (k.word b) (k.words items) (k.word a) ∙ ap (λ (l : List ℕ). k.word b ++ l) (words_one items a))

  -- (section) the section of the items, with the line of one item more, is that of all of them
  pub section_grown : (i : ℕ) (items : List A) (a : A)
      → grown (section_of i items) (k.word a) (line k.keyword (k.fields (i + length items) a)) ≡ section_of i (items ++ a ∷ [])
  section_grown i items a =
      λ j. record {
        lines = sym (length-append items (a ∷ [])) j;
        words = words_one items a j;
        text = sym (section_one k.keyword k.fields i items a) j;
      }
