use Rattle.std.proofs.Common.{◌≡◌, ℕ, List, arith, rules}
use Rattle.std.proofs.lemmas.Map.Text.{text_keys}
use Rattle.gba_store.specs.Memory.{files_of}
use Rattle.gba_store.proofs.memory.extend.Goals as goal

pub returns-in_ok-extend_from_slice-in-Some-clause-ok : goal.returns-in_ok-extend_from_slice-in-Some-clause-ok
returns-in_ok-extend_from_slice-in-Some-clause-ok c = record {
  file = grind (arith, text_keys);
  others = λ other apart. grind (arith, text_keys);
}

pub returns-in_err-extend_from_slice-in-Some-clause-err : goal.returns-in_err-extend_from_slice-in-Some-clause-err
returns-in_err-extend_from_slice-in-Some-clause-err c =
    let at : (other : List ℕ)
    → files_of (c.get_mut.follows.lender c.extend_from_slice.new.self) other ≡ files_of c.args.files.now other =
    λ other. grind (arith, text_keys) in
    let same : files_of (c.get_mut.follows.lender c.extend_from_slice.new.self) ≡ files_of c.args.files.now =
    λ t other. at other t in
    search rules
