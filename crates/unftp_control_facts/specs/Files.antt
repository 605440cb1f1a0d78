-- What listings show of a file: its kind, and its facts.
use Rattle.std.specs.Prelude.{ℕ, Bool, true, false, codes}
use Rattle.unftp_control_defs.specs.Bytes.{Bytes, DASH}
use Rattle.unftp_control_facts.specs.Facts.{FileFacts}
use Rattle.unftp_control_facts.specs.declared.file.FileKind.{FileKind}
use Rattle.unftp_control_facts.specs.declared.file.FileKind.TheVariants.{File, Directory, Link, Pipe, Socket, CharacterDevice, BlockDevice}
use Rattle.unftp_control_facts.specs.declared.file.FileStatus.{FileStatus}

abbrev pub is_directory : FileKind → Bool
is_directory Directory = true
is_directory _ = false

-- the letter of `ls -l`: a dash for a file, and one of dlpscb
abbrev pub kind_letter : FileKind → ℕ
kind_letter File = DASH
kind_letter Directory = 100
kind_letter Link = 108
kind_letter Pipe = 112
kind_letter Socket = 115
kind_letter CharacterDevice = 99
kind_letter BlockDevice = 98

-- the fact of a type (RFC 3659, section 7.5.1)
abbrev pub kind_fact : FileKind → Bytes
kind_fact File = codes "type=file;"
kind_fact Directory = codes "type=dir;"
kind_fact Link = codes "type=OS.unix=symlink;"
kind_fact Pipe = codes "type=OS.unix=pipe;"
kind_fact Socket = codes "type=OS.unix=socket;"
kind_fact CharacterDevice = codes "type=OS.unix=chr;"
kind_fact BlockDevice = codes "type=OS.unix=blk;"

-- the facts of a file whose status is known
abbrev pub facts_of_file : FileStatus → FileFacts
facts_of_file file = record {
  is_dir = is_directory file.kind;
  size = file.size;
  modified = file.modified;
  uid = file.uid;
  gid = file.gid;
}
