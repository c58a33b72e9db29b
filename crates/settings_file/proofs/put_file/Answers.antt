-- `settings_file::put_file` meets its contract: what is stored, one behind the other, is the file of the version chosen.
use mathlib.Core.Path.{sym, ◌∙◌}
use Rattle.settings_file.specs.FileLaws.{first_put, second_put}
use Rattle.settings_file.proofs.put_file.Goals as goal

pub returns-then-fits_first : goal.returns-then-fits_first
returns-then-fits_first c =
    first_put _ _
    (sym c.fits_first.ensures ∙ c.if-fits_first.true)
    c.put_front.ensures
    c.put_back.ensures

pub returns : goal.returns
returns c =
    second_put _ _
    (sym c.fits_first.ensures ∙ c.if-fits_first.false)
    c.put_front-2.ensures
    c.put_back-2.ensures
    c.put_added.ensures
