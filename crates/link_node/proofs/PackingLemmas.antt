-- A packed signal unpacks to itself.
use Rattle.std.specs.Prelude.{Option, None, Some, IfSome}
use Rattle.std.proofs.Common.{ℕ, ◌≡◌, ◌+◌, ◌*◌, ◌/◌, ◌%◌, ◌^◌, ◌<◌, arith, refl}
use Rattle.link_node.specs.declared.signal.LinkMode.{LinkMode}
use Rattle.link_node.specs.declared.signal.LinkMode.TheVariants.{Normal8, Normal32, Multi, Other}
use Rattle.link_node.specs.declared.signal.Signal.{Signal}
use Rattle.link_node.specs.declared.signal.Start.{Start}
use Rattle.link_node.specs.Due.{FitsWidths}
use Rattle.link_node.specs.Packing.{mode_number, numbered_mode, presence, start_speed, start_word, reply_word}
use Rattle.link_node.specs.Packing.{packed_head, packed_words, signal_in}

pub numbered : (mode : LinkMode) → numbered_mode (mode_number mode) ≡ mode
numbered Normal8 = refl
numbered Normal32 = refl
numbered Multi = refl
numbered Other = refl

small_mode : (mode : LinkMode) → mode_number mode < 4
small_mode Normal8 = omega arith
small_mode Normal32 = omega arith
small_mode Multi = omega arith
small_mode Other = omega arith

-- the fields of a first number that was put together from its parts
record Parts (head clock mode start speed reply : ℕ) : Type 0 where
  high : head / 2 ^ 46 ≡ 0
  clock_is : head / 2 ^ 0 % 2 ^ 40 ≡ clock
  mode_is : head / 2 ^ 40 % 2 ^ 2 ≡ mode
  start_is : head / 2 ^ 42 % 2 ≡ start
  speed_is : head / 2 ^ 43 % 2 ^ 2 ≡ speed
  reply_is : head / 2 ^ 45 % 2 ≡ reply

parts : (head clock mode start speed reply : ℕ) → clock < 2 ^ 40 → mode < 4 → start < 2 → speed < 4 → reply < 2
    → head ≡ clock + mode * 2 ^ 40 + start * 2 ^ 42 + speed * 2 ^ 43 + reply * 2 ^ 45
    → Parts head clock mode start speed reply
parts head clock mode start speed reply a b c d e is = record {
  high = omega arith;
  clock_is = omega arith;
  mode_is = omega arith;
  start_is = omega arith;
  speed_is = omega arith;
  reply_is = omega arith;
}

low_word : (low high : ℕ) → low < 2 ^ 32 → (low + high * 2 ^ 32) / 2 ^ 0 % 2 ^ 32 ≡ low
low_word low high small = omega arith

high_word : (low high : ℕ) → low < 2 ^ 32 → high < 2 ^ 32 → (low + high * 2 ^ 32) / 2 ^ 32 % 2 ^ 32 ≡ high
high_word low high small little = omega arith

pub unpacked_of_packed : (clock : ℕ) (mode : LinkMode) (start : Option Start) (reply : Option ℕ)
    → clock < 2 ^ 40 → start_speed start < 4 → start_word start < 2 ^ 32 → reply_word reply < 2 ^ 32
    → (head words : ℕ) → head ≡ clock + mode_number mode * 2 ^ 40 + presence start * 2 ^ 42 + start_speed start * 2 ^
    43 + presence reply * 2 ^ 45
    → words ≡ start_word start + reply_word reply * 2 ^ 32
    → signal_in head words ≡ Some (record { clock = clock; mode = mode; start = start; reply = reply })
unpacked_of_packed clock mode None None small speed low high head words is are =
    let p = parts head clock (mode_number mode) 0 0 0 small (small_mode mode) (omega arith) speed (omega arith) is in
    let l : words / 2 ^ 0 % 2 ^ 32 ≡ 0 = omega arith in
    let h : words / 2 ^ 32 % 2 ^ 32 ≡ 0 = omega arith in
    simp (p.high, p.clock_is, p.mode_is, p.start_is, p.speed_is, p.reply_is, l, h, numbered mode)
unpacked_of_packed clock mode None (Some reply) small speed low high head words is are =
    let p = parts head clock (mode_number mode) 0 0 1 small (small_mode mode) (omega arith) speed (omega arith) is in
    let l : words / 2 ^ 0 % 2 ^ 32 ≡ 0 = omega arith in
    let h : words / 2 ^ 32 % 2 ^ 32 ≡ reply = omega arith in
    simp (p.high, p.clock_is, p.mode_is, p.start_is, p.speed_is, p.reply_is, l, h, numbered mode)
unpacked_of_packed clock mode (Some start) None small speed low high head words is are =
    let p = parts head clock (mode_number mode) 1 start.speed 0 small (small_mode mode) (omega arith) speed
    (omega arith) is in
    let l : words / 2 ^ 0 % 2 ^ 32 ≡ start.word = omega arith in
    let h : words / 2 ^ 32 % 2 ^ 32 ≡ 0 = omega arith in
    simp (p.high, p.clock_is, p.mode_is, p.start_is, p.speed_is, p.reply_is, l, h, numbered mode)
unpacked_of_packed clock mode (Some start) (Some reply) small speed low high head words is are =
    let p = parts head clock (mode_number mode) 1 start.speed 1 small (small_mode mode) (omega arith) speed
    (omega arith) is in
    let l : words / 2 ^ 0 % 2 ^ 32 ≡ start.word = omega arith in
    let h : words / 2 ^ 32 % 2 ^ 32 ≡ reply = omega arith in
    simp (p.high, p.clock_is, p.mode_is, p.start_is, p.speed_is, p.reply_is, l, h, numbered mode)

pub start_speed_small : (start : Option Start) → IfSome start (λ s. (s.speed < 4) × (s.word < 2 ^ 32))
    → start_speed start < 4
start_speed_small None h = omega arith
start_speed_small (Some start) h = h.0

start_word_small : (start : Option Start) → IfSome start (λ s. (s.speed < 4) × (s.word < 2 ^ 32))
    → start_word start < 2 ^ 32
start_word_small None h = omega arith
start_word_small (Some start) h = h.1

reply_word_small : (reply : Option ℕ) → IfSome reply (λ word. word < 2 ^ 32) → reply_word reply < 2 ^ 32
reply_word_small None h = omega arith
reply_word_small (Some word) h = h

-- the two numbers of any signal whose parts fit are ones that unpack to it
pub packs : (s : Signal) → s.clock < 2 ^ 40 → FitsWidths s → signal_in (packed_head s) (packed_words s) ≡ Some s
packs s small fits =
    unpacked_of_packed s.clock s.mode s.start s.reply small (start_speed_small s.start fits.0)
    (start_word_small s.start fits.0) (reply_word_small s.reply fits.1) (packed_head s) (packed_words s) refl refl
