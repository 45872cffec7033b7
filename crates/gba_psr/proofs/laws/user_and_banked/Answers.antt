use Rattle.std.proofs.Common.{ℕ, get_or, ap}
use Rattle.gba_psr.specs.RegisterFile.{mode, register, user_register}
use Rattle.gba_psr.proofs.Seats.{place_unbanked, place_below, place_counter}
use Rattle.gba_psr.proofs.laws.user_and_banked.Goals as goal

pub returns-clause-shared : goal.returns-clause-shared
unfolding register user_register
returns-clause-shared c = λ file number below. ap (λ (p : ℕ). get_or file p 0) (place_below (mode file) number below)

pub returns-clause-pc : goal.returns-clause-pc
unfolding register user_register
returns-clause-pc c = λ file. ap (λ (p : ℕ). get_or file p 0) (place_counter (mode file))

pub returns-clause-unbanked : goal.returns-clause-unbanked
unfolding register user_register
returns-clause-unbanked c = λ file number none. ap (λ (p : ℕ). get_or file p 0) (place_unbanked (mode file) number none)
