-- The commands that read one file and write another.
use Rattle.std.specs.Prelude.{ℕ, List, [], ◌∷◌, ◌++◌, length, codes, decimal, Result, Ok, Err}
use Rattle.gba_text.specs.Languages.{error_at}
use Rattle.gba_asm.specs.Assembly.{assembly_of, longest_source}
use Rattle.gba_asm_words.specs.Kinds.{AsmError}
use Rattle.gba_asm_words.specs.declared.kinds.AsmKind.TheVariants.{Size}
use Rattle.gba_command.specs.Cause.{Cause, Image, Source}
use Rattle.gba_command.specs.Plan.{Plan, Done, bind, file, judgement}
use Rattle.gba_command.specs.Words.{FileWords}
use Rattle.gba_command.specs.Writing.{Run, at_once}
use Rattle.gba_dis.specs.declared.units.Set.{Set}
use Rattle.gba_dis.specs.Listing.{listing}
use Rattle.gba_image.specs.Checks.{longest_cartridge}
use Rattle.gba_image.specs.declared.error.ImageError.TheVariants.{TooLong}

-- a line of a word and a number, as `asm 8`
abbrev pub count_line : List ℕ → ℕ → List ℕ
count_line word count = word ++ (codes " " ++ (decimal count ++ codes "\n"))

-- One file is written, and then the summary: a word, and the number of the file's bytes.
abbrev pub one_file : List ℕ → List ℕ → List ℕ → Run
one_file name word bytes =
    at_once (record { name = name; bytes = bytes } ∷ []) (Ok (count_line word (length bytes)))

-- the bytes of a source, or the refusal of its first line that isn't of the language
abbrev pub unless_refused : List ℕ → Result (List ℕ) AsmError → Result (List ℕ) Cause
unless_refused name (Ok image) = Ok image
unless_refused name (Err error) = Err (Source name error)

abbrev pub assembled : List ℕ → List ℕ → Result (List ℕ) Cause
assembled name source = unless_refused name (assembly_of source)

abbrev pub judged_source : List ℕ → List ℕ → Plan (List ℕ)
judged_source name source = judgement (assembled name source)

-- a source that is too long is refused at line 0
abbrev pub source_plan : List ℕ → Plan (List ℕ)
source_plan name = bind (file name longest_source (Source name (error_at 0 Size))) (judged_source name)

abbrev pub after_assembly : FileWords → List ℕ → Plan Run
after_assembly words image = Done (one_file words.to (codes "asm") image)

-- `asm SRC OUT`: SRC is read and assembled into OUT.
abbrev pub assembly_plan : FileWords → Plan Run
assembly_plan words = bind (source_plan words.from) (after_assembly words)

abbrev pub image_plan : List ℕ → Plan (List ℕ)
image_plan name = file name longest_cartridge (Image name TooLong)

abbrev pub listed : List ℕ → Set → List ℕ → Run
listed name set image = one_file name (codes "dis") (listing set image)

abbrev pub after_image : Set → FileWords → List ℕ → Plan Run
after_image set words image = Done (listed words.to set image)

-- `dis IMAGE OUT` and `tdis IMAGE OUT`: IMAGE is read and listed into OUT.
abbrev pub listing_plan : Set → FileWords → Plan Run
listing_plan set words = bind (image_plan words.from) (after_image set words)
