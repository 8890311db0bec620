-- The node of an item of each list.
use Rattle.std.specs.Prelude.{ℕ}
use Rattle.disk_change.specs.declared.enter.Enter.{Enter}
use Rattle.disk_change.specs.declared.files.FileChange.{FileChange}
use Rattle.disk_change.specs.declared.directory_net.DirectoryNet.{DirectoryNet}

-- the node of a net, of a file's change, and of one that enters
abbrev pub net_node : DirectoryNet → ℕ
net_node one = one.node.0

abbrev pub file_node : FileChange → ℕ
file_node one = one.node.0

abbrev pub enter_node : Enter → ℕ
enter_node one = one.node.0
