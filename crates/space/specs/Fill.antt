-- The page of a fill, and what is kept of it.
use Rattle.words.specs.declared.address.Page.{Page}
use Rattle.fills.specs.declared.underway.Underway.{Underway}
use Rattle.space.specs.declared.fill.Fill.{Fill}

abbrev pub fill_page : Fill → Page
fill_page fill = fill.page

abbrev pub fill_underway : Fill → Underway
fill_underway fill = fill.underway
