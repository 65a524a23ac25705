-- What no call changes of a medium over files.
use Rattle.std.specs.Prelude.{ℕ, Option, Some, None}
use Rattle.disk_model.specs.Media.{Fixed, of_size}
use Rattle.media_files.specs.declared.image.Image.{Image}

-- how many blocks the open image has; with nothing open there are none
abbrev pub count_of : Option Image → ℕ
count_of None = 0
count_of (Some image) = image.count

abbrev pub fixed_of : Option Image → Fixed
fixed_of image = of_size (count_of image)
