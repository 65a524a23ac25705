-- What the words of a call ask for.
use Rattle.std.specs.Prelude.{ℕ, ◌^◌, ◌==◌, ◌&&◌, not, nat_lt, nat_le, if◌then◌else◌, Bool, List, [], ◌∷◌, length, map, codes, bytes_eq, slice_index, Option, Some, None, is_none, unwrap_or, option_and_then}
use Rattle.std.specs.Borrow.{Bor}
use Rattle.std.specs.Option.{option_map}
use Rattle.vol_numbers.specs.Layout.{Layout, area_size}
use Rattle.line_text.specs.Numbers.{number_in}
use Rattle.command_server.specs.declared.words.FormatOptions.{FormatOptions}

-- the bytes of each word
abbrev pub bytes_of_words : List (Bor (List ℕ)) → List (List ℕ)
bytes_of_words words = map (λ word. word.now) words

-- to make a volume of this layout in the image of this name
pub data Request : Type 0 where
  Format : List ℕ → Layout → Request
  -- to serve a session over the volume in the image of this name
  Serve : List ℕ → Request
  -- to check the image of this name
  Check : List ℕ → Request

-- a number below 2^32: no row of the table of actions has a greater one
abbrev pub within_table : ℕ → Option ℕ
within_table number = if nat_lt number (2 ^ 32) then Some number else None

-- the number that a word writes, if the table may have it
abbrev pub value_in : List ℕ → Option ℕ
value_in word = option_and_then within_table (number_in word)

-- with one option more, if it is an option of a format that wasn't given yet and its value is a number
abbrev pub with_option : FormatOptions → List ℕ → List ℕ → Option FormatOptions
with_option o name value =
    if bytes_eq name (codes "--blocks") && is_none o.blocks then option_map (λ n. record o { blocks = Some n }) (value_in value)
    else if bytes_eq name (codes "--log") && is_none o.log then option_map (λ n. record o { log = Some n }) (value_in value)
    else None

-- with all the options of these words, which are pairs of an option and its value
abbrev pub with_options : FormatOptions → List (List ℕ) → Option FormatOptions
with_options o [] = Some o
with_options o (name ∷ []) = None
with_options o (name ∷ value ∷ rest) = option_and_then (λ next. with_options next rest) (with_option o name value)

abbrev pub no_options : FormatOptions
no_options = record { blocks = None; log = None }

-- 65,536 blocks and a log of 1,024, where the options don't say otherwise
abbrev pub layout_in : FormatOptions → Layout
layout_in o = record { blocks = unwrap_or o.blocks 65536; log_blocks = unwrap_or o.log 1024 }

-- whether a layout is within the limits of a volume
abbrev pub is_layout : Layout → Bool
is_layout g = nat_le g.blocks 65536 && nat_le 64 g.log_blocks && nat_le g.log_blocks 4096 && nat_le 64 (area_size g)

-- a word that may name an image: it has a byte, and doesn't begin as an option does
abbrev pub is_image_name : List ℕ → Bool
is_image_name word = nat_lt 0 (length word) && not (slice_index word 0 == 45)

abbrev pub format_of : List ℕ → FormatOptions → Option Request
format_of image o = if is_layout (layout_in o) then Some (Format image (layout_in o)) else None

-- a session takes no options yet
abbrev pub serve_of : List ℕ → List (List ℕ) → Option Request
serve_of image [] = Some (Serve image)
serve_of image (option ∷ options) = None

-- a check takes no options
abbrev pub check_of : List ℕ → List (List ℕ) → Option Request
check_of image [] = Some (Check image)
check_of image (option ∷ options) = None

-- what the words behind an action and an image ask for
abbrev pub action_of : List ℕ → List ℕ → List (List ℕ) → Option Request
action_of action image options =
    if bytes_eq action (codes "format") then option_and_then (format_of image) (with_options no_options options)
    else if bytes_eq action (codes "serve") then serve_of image options
    else if bytes_eq action (codes "check") then check_of image options
    else None

-- what the words ask for, if they are in the table of actions: `format IMAGE [--blocks N] [--log N]`, `serve IMAGE` or `check IMAGE`
abbrev pub request_of : List (List ℕ) → Option Request
request_of (action ∷ image ∷ options) = if is_image_name image then action_of action image options else None
request_of words = None
