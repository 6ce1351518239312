-- The name of a cycle.
-- Source: own, after the names of litmus tests in the diy part of the herdtools manual.
use Rattle.std.specs.{Prelude.{ℕ, Bool, true, cond, Option, Some, None, List, [], ◌∷◌, ◌++◌, codes}, List.{list_all, flat_map, join_by}, Str.bytes_eq}
use Rattle.relax_edges.specs.{declared.edge.Edge.Edge, WordParts.word_of}
use Rattle.cycle_names.specs.{declared.family.Family.Family, Families.family_word, LinkWords.link_words, Rotations.{found_family, named_rotation}}

-- a `+` and a word
abbrev pub after_plus : List ℕ → List ℕ
after_plus word = codes "+" ++ word

-- whether all words are equal
abbrev pub all_equal : List (List ℕ) → Bool
all_equal [] = true
all_equal (word ∷ words) = list_all (bytes_eq word) words

-- one word for all: the first, after a `+` and before an `s`
abbrev pub plural : List (List ℕ) → List ℕ
plural [] = []
plural (word ∷ _) = after_plus word ++ codes "s"

-- what comes after the family in a name: nothing if all words are `po`, otherwise one word for all if all are equal, otherwise each word
unfoldable pub links_text : List (List ℕ) → List ℕ
links_text words = cond (list_all (bytes_eq (codes "po")) words) [] (cond (all_equal words) (plural words) (flat_map after_plus words))

-- the name from a rotation of a cycle: the family and the links if it has a family, otherwise `C+` and the names of the edges
unfoldable pub name_from : Option Family → List Edge → List ℕ
name_from (Some family) v = family_word family ++ links_text (link_words v)
name_from None v = codes "C+" ++ join_by word_of (codes "-") v

-- the name of a cycle
unfoldable pub name_of : List Edge → List ℕ
name_of u = name_from (found_family u) (named_rotation u)
