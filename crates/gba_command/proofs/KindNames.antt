-- The names of the kinds of refusal.
use Rattle.std.proofs.Common.{◌≤◌, length, lit≤}
use Rattle.gba_asm_words.specs.Kinds.{kind_name as asm_kind_name}
use Rattle.gba_asm_words.specs.declared.kinds.AsmKind.{AsmKind}
use Rattle.gba_asm_words.specs.declared.kinds.AsmKind.TheVariants as asm
use Rattle.gba_image.specs.Names.{error_name}
use Rattle.gba_image.specs.declared.error.ImageError.{ImageError}
use Rattle.gba_image.specs.declared.error.ImageError.TheVariants.{BiosLength, TooShort, TooLong, FixedByte, HeaderCheck, SaveLength}
use Rattle.gba_joblog.specs.Kinds.{kind_name}
use Rattle.gba_joblog.specs.declared.kinds.JobKind.{JobKind}
use Rattle.gba_joblog.specs.declared.kinds.JobKind.TheVariants.{Byte, Word, Number, Name, Digest, Order, Repeated, Missing, Extra, Long, Clash}

pub kind_name_short : (kind : JobKind) → length (kind_name kind) ≤ 8
kind_name_short Byte = lit≤ tt
kind_name_short Word = lit≤ tt
kind_name_short Number = lit≤ tt
kind_name_short Name = lit≤ tt
kind_name_short Digest = lit≤ tt
kind_name_short Order = lit≤ tt
kind_name_short Repeated = lit≤ tt
kind_name_short Missing = lit≤ tt
kind_name_short Extra = lit≤ tt
kind_name_short Long = lit≤ tt
kind_name_short Clash = lit≤ tt

pub error_name_short : (error : ImageError) → length (error_name error) ≤ 11
error_name_short BiosLength = lit≤ tt
error_name_short TooShort = lit≤ tt
error_name_short TooLong = lit≤ tt
error_name_short FixedByte = lit≤ tt
error_name_short HeaderCheck = lit≤ tt
error_name_short SaveLength = lit≤ tt

pub asm_kind_name_short : (kind : AsmKind) → length (asm_kind_name kind) ≤ 8
asm_kind_name_short asm.Size = lit≤ tt
asm_kind_name_short asm.Unknown = lit≤ tt
asm_kind_name_short asm.Operand = lit≤ tt
asm_kind_name_short asm.Repeated = lit≤ tt
asm_kind_name_short asm.Label = lit≤ tt
asm_kind_name_short asm.Range = lit≤ tt
