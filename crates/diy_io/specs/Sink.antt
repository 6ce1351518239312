-- What a sink shows of the bytes that it has taken, and what it means that it grew by a text.
use Rattle.std.specs.{Prelude.{◌≡◌, ℕ, ◌+◌, ◌==◌, List, ◌++◌, length, count_by, Option, None, Some}, Option.option_map}
use Rattle.diy_io.specs.Count.{count_of}

-- how many bytes and how many line feeds a sink has taken
pub record Tally : Type 0 where
  pub bytes : ℕ
  pub line_feeds : ℕ

-- all bytes that a sink has taken, if it shows them, and their tally, if it shows that
pub record Shown : Type 0 where
  pub written : Option (List ℕ)
  pub tallied : Option Tally

-- how many line feeds a text has
abbrev pub line_feed_count : List ℕ → ℕ
line_feed_count text = count_by (λ byte. byte == 10) text

-- the tally of this many bytes and line feeds
abbrev pub tally_of : ℕ → ℕ → Tally
tally_of bytes line_feeds = record { bytes = bytes; line_feeds = line_feeds }

-- a tally as it is kept: no count exceeds its maximum
abbrev pub tally_kept : Tally → Tally
tally_kept tally = tally_of (count_of tally.bytes) (count_of tally.line_feeds)

-- a tally after one more text
abbrev pub tally_after : Tally → List ℕ → Tally
tally_after tally text =
    tally_of (count_of (tally.bytes + length text)) (count_of (tally.line_feeds + line_feed_count text))

-- what is shown, with the tally as it is kept
unfoldable pub shown_kept : Shown → Shown
shown_kept shown = record { written = shown.written; tallied = option_map tally_kept shown.tallied }

-- what is shown after one more text
unfoldable pub shown_after : Shown → List ℕ → Shown
shown_after shown text = record {
  written = option_map (λ taken. taken ++ text) shown.written;
  tallied = option_map (λ tally. tally_after tally text) shown.tallied;
}

-- what a sink shows is what it showed before, followed by a text
abbrev pub Grew : Shown → Shown → List ℕ → Type 0
Grew old new text = shown_kept new ≡ shown_after (shown_kept old) text

-- what is shown is what was shown before, followed by a prefix of a text
pub record EndsWithin (old new : Shown) (text : List ℕ) : Type 0 where
  pub prefix : List ℕ
  pub rest : List ℕ
  pub parts : text ≡ prefix ++ rest
  pub grew : new ≡ shown_after old prefix

-- what a sink shows is what it showed before, followed by a prefix of a text
abbrev pub GrewByPrefix : Shown → Shown → List ℕ → Type 0
GrewByPrefix old new text = EndsWithin (shown_kept old) (shown_kept new) text

-- what is shown by a sink that shows only its bytes
abbrev pub shown_bytes : List ℕ → Shown
shown_bytes taken = record { written = Some taken; tallied = None }

-- what is shown by a sink that shows only a tally
abbrev pub shown_tally : Tally → Shown
shown_tally tally = record { written = None; tallied = Some tally }

-- what is shown by a sink that shows nothing
abbrev pub shown_nothing : Shown
shown_nothing = record { written = None; tallied = None }
