-- The request that a value of the code is.
use Rattle.vol_numbers.specs.Geometry.{layout_of}
use Rattle.command_server.specs.declared.words.Request as declared
use Rattle.command_server.specs.declared.words.Request.TheVariants as code
use Rattle.command_server.specs.Words.{Request, Format, Serve, Check}

abbrev pub asked : declared.Request → Request
asked (code.Format image geometry) = Format image.now (layout_of geometry)
asked (code.Serve image) = Serve image.now
asked (code.Check image) = Check image.now
