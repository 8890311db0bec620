-- When rows that come and go are counted right.
use Rattle.std.specs.Prelude.{◌≡◌, ℕ, List}
use Rattle.disk_change.specs.declared.directory_net.DirectoryNet.{DirectoryNet}
use Rattle.disk_change.specs.Coming.{Coming}
use Rattle.disk_change.specs.Links.{rows_coming, rows_going, times_in}

-- The counts are those of nets, where these nodes are directories.
pub record CountsNets (directories : List ℕ) (nets : List DirectoryNet) (links : Coming) : Type 0 where
  pub coming : (node : ℕ) → times_in links.coming node ≡ times_in (rows_coming directories nets) node
  pub going : (node : ℕ) → times_in links.going node ≡ times_in (rows_going directories nets) node
