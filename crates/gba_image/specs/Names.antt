use Rattle.std.specs.Prelude.{ℕ, List, codes}
use Rattle.gba_image.specs.declared.error.ImageError.{ImageError}
use Rattle.gba_image.specs.declared.error.ImageError.TheVariants.{BiosLength, TooShort, TooLong, FixedByte, HeaderCheck, SaveLength}

-- the name of a refusal in reports
abbrev pub error_name : ImageError → List ℕ
error_name BiosLength = codes "BiosLength"
error_name TooShort = codes "TooShort"
error_name TooLong = codes "TooLong"
error_name FixedByte = codes "FixedByte"
error_name HeaderCheck = codes "HeaderCheck"
error_name SaveLength = codes "SaveLength"
