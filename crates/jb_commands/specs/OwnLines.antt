-- The name of a fault for which a file system's own journal is not found, and its numbers.
use Rattle.std.specs.Prelude.{ℕ, List, codes}
use Rattle.jb_ext.specs.declared.fault.FieldName.{FieldName}
use Rattle.jb_ext.specs.declared.fault.FieldName.TheVariants as field
use Rattle.jb_ext.specs.declared.fault.InodeFault.{InodeFault}
use Rattle.jb_ext.specs.declared.fault.InodeFault.TheVariants as inode
use Rattle.jb_ext.specs.declared.fault.OwnFault.{OwnFault}
use Rattle.jb_ext.specs.declared.fault.OwnFault.TheVariants as own
use Rattle.jb_map.specs.declared.fault.MapFault.{MapFault}
use Rattle.jb_map.specs.declared.fault.MapFault.TheVariants as map
use Rattle.jb_map.specs.declared.fault.NodeFault.{NodeFault}
use Rattle.jb_map.specs.declared.fault.NodeFault.TheVariants as node
use Rattle.jb_commands.specs.declared.streams.fault_line.Numbers.{Numbers}
use Rattle.jb_commands.specs.declared.streams.fault_line.Numbers.TheVariants as numbers

-- the name of the fault of a field of the superblock: the field's name in the kernel's header
abbrev pub field_words : FieldName → List ℕ
field_words field.LogBlockSize = codes "Own Field s_log_block_size"
field_words field.LogClusterSize = codes "Own Field s_log_cluster_size"
field_words field.FirstDataBlock = codes "Own Field s_first_data_block"
field_words field.BlocksCount = codes "Own Field s_blocks_count"
field_words field.BlocksPerGroup = codes "Own Field s_blocks_per_group"
field_words field.InodeSize = codes "Own Field s_inode_size"
field_words field.InodesPerGroup = codes "Own Field s_inodes_per_group"
field_words field.DescSize = codes "Own Field s_desc_size"
field_words field.JournalInum = codes "Own Field s_journal_inum"

-- the name of the fault of an inode
abbrev pub inode_words : InodeFault → List ℕ
inode_words inode.NotRegular = codes "Own Inode NotRegular"
inode_words inode.NoLink = codes "Own Inode NoLink"
inode_words inode.Encrypted = codes "Own Inode Encrypted"
inode_words inode.Inline = codes "Own Inode Inline"
inode_words inode.Small = codes "Own Inode Small"
inode_words inode.Large = codes "Own Inode Large"

-- the same of a node of the map, for this place of the journal: the place, and the number that the node has
abbrev pub map_node_words : ℕ → NodeFault → List ℕ × Numbers
map_node_words place (node.Magic number) = (codes "Own Map Node Magic", numbers.Two place number)
map_node_words place (node.Depth number) = (codes "Own Map Node Depth", numbers.Two place number)
map_node_words place (node.Room number) = (codes "Own Map Node Room", numbers.Two place number)
map_node_words place (node.Count number) = (codes "Own Map Node Count", numbers.Two place number)
map_node_words place node.Empty = (codes "Own Map Node Empty", numbers.One place)

-- the same of a map of the journal's blocks that is damaged: a place of the journal; of `Twice` a block of the image
abbrev pub map_words : MapFault → List ℕ × Numbers
map_words (map.Node place fault) = map_node_words place fault
map_words (map.Unwritten place) = (codes "Own Map Unwritten", numbers.One place)
map_words (map.Apart place) = (codes "Own Map Apart", numbers.One place)
map_words (map.OutOfRange place) = (codes "Own Map OutOfRange", numbers.One place)
map_words (map.Hole place) = (codes "Own Map Hole", numbers.One place)
map_words (map.Short place) = (codes "Own Map Short", numbers.One place)
map_words (map.Twice block) = (codes "Own Map Twice", numbers.One block)

-- the same of a journal that is not found
abbrev pub own_words : OwnFault → List ℕ × Numbers
own_words own.NoSystem = (codes "Own NoSystem", numbers.None)
own_words own.Device = (codes "Own Device", numbers.None)
own_words (own.Feature bits) = (codes "Own Feature", numbers.One bits)
own_words own.NoJournal = (codes "Own None", numbers.None)
own_words own.External = (codes "Own External", numbers.None)
own_words (own.Field field number) = (field_words field, numbers.One number)
own_words (own.Descriptor block) = (codes "Own Descriptor", numbers.One block)
own_words (own.Table block) = (codes "Own Table", numbers.One block)
own_words (own.Inode fault) = (inode_words fault, numbers.None)
own_words (own.Map fault) = map_words fault
own_words own.Differs = (codes "Own Differs", numbers.None)
own_words (own.NoSuper block) = (codes "Own NoSuper", numbers.One block)
own_words own.Short = (codes "Own Short", numbers.None)
