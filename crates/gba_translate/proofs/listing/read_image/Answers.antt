use Rattle.gba_translate.proofs.listing.read_image.Goals as goal

pub returns-clause-goes : goal.returns-clause-goes
returns-clause-goes g c = rw c.name_in_report.ensures at c.read_file.ensures.goes
