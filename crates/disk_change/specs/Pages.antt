-- The block of a page.
use Rattle.std.specs.Prelude.{ℕ}
use Rattle.disk_change.specs.declared.pages.Page.{Page}

-- the block of a page
abbrev pub page_block : Page → ℕ
page_block page = page.block
