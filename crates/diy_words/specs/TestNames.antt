-- Names of tests. Source: own, after the file names of diy.
use Rattle.std.specs.{Prelude.{ℕ, Bool, ◌&&◌, nat_lt, nat_le, List, length}, List.list_all}
use Rattle.text_parts.specs.Names.{is_name_byte}
use Rattle.diy_words.specs.declared.request.TheConstants.{MAX_GIVEN_NAME}

-- a text can name a test
abbrev pub is_name : List ℕ → Bool
is_name text = nat_lt 0 (length text) && nat_le (length text) MAX_GIVEN_NAME && list_all is_name_byte text
