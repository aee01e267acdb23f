-- The code's lists, as those of `InfoBlock`. Assumes nothing.
use Rattle.info_block.specs.InfoBlock as InfoBlock
use Rattle.info_block.specs.declared.name_list.NameList.{NameList}

-- A list of the code: its count and its bytes.
abbrev pub listed : NameList → InfoBlock.NameList
listed list = record { count = list.count; bytes = list.bytes.now }
