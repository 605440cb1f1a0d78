-- The commands of the control connection (RFC 959, section 4.1), with the older forms of RFC 1123,
-- section 4.1.3.1 (XCWD, XMKD, XPWD), and those of RFC 2228 (AUTH, CCC, PBSZ, PROT), 2389 (FEAT,
-- OPTS), 2428 (EPSV), 3659 (MDTM, MLSD, MLST, SIZE) and of the field (BYE, SITE MD5): what each
-- holds, its row in the table of verbs, and what is said of it. Any other verb of these RFCs, as
-- REIN, SMNT, XCUP, XRMD and EPRT, is `Other`.
use Rattle.std.specs.Prelude.{ℕ, List as Rows, [], ◌∷◌, ◌++◌, map, Option, Some, None, Result, Ok, Err, codes}
use Rattle.unftp_control_defs.specs.Bytes.{Bytes}
use Rattle.unftp_control_defs.specs.declared.parameters.AuthParam.{AuthParam}
use Rattle.unftp_control_defs.specs.declared.parameters.Choice.{Choice}
use Rattle.unftp_control_defs.specs.declared.parameters.Choice.TheVariants as choices
use Rattle.unftp_control_defs.specs.declared.parameters.ModeParam.{ModeParam}
use Rattle.unftp_control_defs.specs.declared.parameters.Opt.{Opt}
use Rattle.unftp_control_defs.specs.declared.parameters.ProtParam.{ProtParam}
use Rattle.unftp_control_defs.specs.declared.parameters.StruParam.{StruParam}
use Rattle.unftp_control_defs.specs.declared.verb.Kind.{Kind}
use Rattle.unftp_control_defs.specs.declared.verb.Kind.TheVariants as kinds
use Rattle.unftp_control_defs.specs.declared.verb.Verb.{Verb}
use Rattle.unftp_control_defs.specs.declared.verb.Verb.TheVariants as verb

-- Its fields are numbers, choices and lists of bytes.
pub data FtpCommand : Type 0 where
  User : Bytes → FtpCommand
  Pass : Bytes → FtpCommand
  Acct : Bytes → FtpCommand
  Syst : FtpCommand
  Stat : Option Bytes → FtpCommand
  TypeCode : FtpCommand
  Stru : StruParam → FtpCommand
  Mode : ModeParam → FtpCommand
  Help : FtpCommand
  Noop : FtpCommand
  Pasv : FtpCommand
  Epsv : FtpCommand
  Port : Bytes → FtpCommand
  Retr : Bytes → FtpCommand
  Stor : Bytes → FtpCommand
  Appe : Bytes → FtpCommand
  -- the options, which no line gives, and the path
  List : Option Bytes → Option Bytes → FtpCommand
  Nlst : Option Bytes → FtpCommand
  Mlst : Option Bytes → FtpCommand
  Mlsd : Option Bytes → FtpCommand
  Feat : FtpCommand
  Pwd : FtpCommand
  Cwd : Bytes → FtpCommand
  Cdup : FtpCommand
  Opts : Opt → FtpCommand
  Dele : Bytes → FtpCommand
  Rmd : Bytes → FtpCommand
  Quit : FtpCommand
  Mkd : Bytes → FtpCommand
  Allo : FtpCommand
  Abor : FtpCommand
  Stou : FtpCommand
  Rnfr : Bytes → FtpCommand
  Rnto : Bytes → FtpCommand
  Auth : AuthParam → FtpCommand
  Ccc : FtpCommand
  Pbsz : FtpCommand
  Prot : ProtParam → FtpCommand
  Size : Bytes → FtpCommand
  Rest : ℕ → FtpCommand
  Mdtm : Bytes → FtpCommand
  Md5 : Bytes → FtpCommand
  -- a SITE subcommand, and its arguments
  Site : Bytes → Bytes → FtpCommand
  -- a verb with no rule of its own, and its arguments
  Other : Bytes → Bytes → FtpCommand

-- why a line is no command
pub data Refusal : Type 0 where
  InvalidCommand : Refusal
  InvalidUtf8 : Refusal
  InvalidEol : Refusal

-- what a line means
abbrev pub Outcome : Type 0
Outcome = Result FtpCommand Refusal

-- The value of a command: bytes as they are, a text, one of a few, or a number.
pub data Value : Type 0 where
  Nothing : Value
  Raw : Bytes → Value
  Text : Bytes → Value
  Chosen : Choice → Value
  Number : ℕ → Value

abbrev pub unless_empty : Bytes → Option Bytes
unless_empty [] = None
unless_empty (b ∷ v) = Some (b ∷ v)

abbrev pub maybe_raw : Option Bytes → Value
maybe_raw None = Nothing
maybe_raw (Some bytes) = Raw bytes

abbrev pub maybe_text : Option Bytes → Value
maybe_text None = Nothing
maybe_text (Some text) = Text text

-- The command of a name and of a value of the verb's kind. The name is the word of the line, in upper
-- case, which only SITE and other verbs keep. A value of a type of its own was read before.
abbrev Makes : Type 0
Makes = Bytes → Value → Outcome

abbrev pub by_nothing : FtpCommand → Makes
by_nothing command name Nothing = Ok command
by_nothing command name _ = Err InvalidCommand

abbrev pub by_raw : (Bytes → FtpCommand) → Makes
by_raw command name Nothing = Ok (command [])
by_raw command name (Raw bytes) = Ok (command bytes)
by_raw command name _ = Err InvalidCommand

abbrev pub by_optional_raw : (Option Bytes → FtpCommand) → Makes
by_optional_raw command name Nothing = Ok (command None)
by_optional_raw command name (Raw bytes) = Ok (command (Some bytes))
by_optional_raw command name _ = Err InvalidCommand

abbrev pub by_text : (Bytes → FtpCommand) → Makes
by_text command name (Text text) = Ok (command text)
by_text command name _ = Err InvalidCommand

abbrev pub by_named_text : (Bytes → Bytes → FtpCommand) → Makes
by_named_text command name Nothing = Ok (command name [])
by_named_text command name (Text text) = Ok (command name text)
by_named_text command name _ = Err InvalidCommand

abbrev pub by_optional_text : (Option Bytes → FtpCommand) → Makes
by_optional_text command name Nothing = Ok (command None)
by_optional_text command name (Text text) = Ok (command (Some text))
by_optional_text command name _ = Err InvalidCommand

abbrev pub by_structure : Makes
by_structure name (Chosen (choices.Structure structure)) = Ok (Stru structure)
by_structure name _ = Err InvalidCommand

abbrev pub by_mode : Makes
by_mode name (Chosen (choices.Mode mode)) = Ok (Mode mode)
by_mode name _ = Err InvalidCommand

abbrev pub by_protection : Makes
by_protection name (Chosen (choices.Protection protection)) = Ok (Prot protection)
by_protection name _ = Err InvalidCommand

abbrev pub by_mechanism : Makes
by_mechanism name (Chosen (choices.Mechanism mechanism)) = Ok (Auth mechanism)
by_mechanism name _ = Err InvalidCommand

abbrev pub by_setting : Makes
by_setting name (Chosen (choices.Setting setting)) = Ok (Opts setting)
by_setting name _ = Err InvalidCommand

abbrev pub by_buffer_size : Makes
by_buffer_size name (Chosen choices.NoBuffer) = Ok Pbsz
by_buffer_size name _ = Err InvalidCommand

abbrev pub by_number : (ℕ → FtpCommand) → Makes
by_number command name (Number number) = Ok (command number)
by_number command name _ = Err InvalidCommand

-- The table: the number for C, the canonical word, what the verb takes, and the command.
pub record Row : Type 0 where
  pub number : ℕ
  pub word : Bytes
  pub kind : Kind
  pub command : Bytes → Value → Outcome

abbrev entry : ℕ → Bytes → Kind → (Bytes → Value → Outcome) → Row
entry number word kind command =
    record { number = number; word = word; kind = kind; command = command }

abbrev pub row : Verb → Row
row verb.User = entry 1 (codes "USER") kinds.Raw (by_raw User)
row verb.Pass = entry 2 (codes "PASS") kinds.Raw (by_raw Pass)
row verb.Acct = entry 3 (codes "ACCT") kinds.Raw (by_raw Acct)
row verb.Syst = entry 4 (codes "SYST") kinds.Ignored (by_nothing Syst)
row verb.Stat = entry 5 (codes "STAT") kinds.Raw (by_optional_raw Stat)
row verb.TypeCode = entry 6 (codes "TYPE") kinds.Ignored (by_nothing TypeCode)
row verb.Stru = entry 7 (codes "STRU") kinds.Typed by_structure
row verb.Mode = entry 8 (codes "MODE") kinds.Typed by_mode
row verb.Help = entry 9 (codes "HELP") kinds.Ignored (by_nothing Help)
row verb.Noop = entry 10 (codes "NOOP") kinds.Alone (by_nothing Noop)
row verb.Pasv = entry 11 (codes "PASV") kinds.Alone (by_nothing Pasv)
row verb.Epsv = entry 12 (codes "EPSV") kinds.Ignored (by_nothing Epsv)
row verb.Port = entry 13 (codes "PORT") kinds.Text (by_text Port)
row verb.Retr = entry 14 (codes "RETR") kinds.Text (by_text Retr)
row verb.Stor = entry 15 (codes "STOR") kinds.Text (by_text Stor)
row verb.Appe = entry 16 (codes "APPE") kinds.Text (by_text Appe)
row verb.List = entry 17 (codes "LIST") kinds.Listing (by_optional_text (List None))
row verb.Nlst = entry 18 (codes "NLST") kinds.OptionalText (by_optional_text Nlst)
row verb.Mlst = entry 19 (codes "MLST") kinds.OptionalText (by_optional_text Mlst)
row verb.Mlsd = entry 20 (codes "MLSD") kinds.OptionalText (by_optional_text Mlsd)
row verb.Feat = entry 21 (codes "FEAT") kinds.Alone (by_nothing Feat)
row verb.Pwd = entry 22 (codes "PWD") kinds.Alone (by_nothing Pwd)
row verb.Cwd = entry 23 (codes "CWD") kinds.Text (by_text Cwd)
row verb.Cdup = entry 24 (codes "CDUP") kinds.Alone (by_nothing Cdup)
row verb.Opts = entry 25 (codes "OPTS") kinds.Typed by_setting
row verb.Dele = entry 26 (codes "DELE") kinds.Text (by_text Dele)
row verb.Rmd = entry 27 (codes "RMD") kinds.Text (by_text Rmd)
row verb.Quit = entry 28 (codes "QUIT") kinds.Alone (by_nothing Quit)
row verb.Mkd = entry 29 (codes "MKD") kinds.Text (by_text Mkd)
row verb.Allo = entry 30 (codes "ALLO") kinds.Ignored (by_nothing Allo)
row verb.Abor = entry 31 (codes "ABOR") kinds.Alone (by_nothing Abor)
row verb.Stou = entry 32 (codes "STOU") kinds.Alone (by_nothing Stou)
row verb.Rnfr = entry 33 (codes "RNFR") kinds.Text (by_text Rnfr)
row verb.Rnto = entry 34 (codes "RNTO") kinds.Text (by_text Rnto)
row verb.Auth = entry 35 (codes "AUTH") kinds.Typed by_mechanism
row verb.Ccc = entry 36 (codes "CCC") kinds.Alone (by_nothing Ccc)
row verb.Pbsz = entry 37 (codes "PBSZ") kinds.Typed by_buffer_size
row verb.Prot = entry 38 (codes "PROT") kinds.Typed by_protection
row verb.Size = entry 39 (codes "SIZE") kinds.Text (by_text Size)
row verb.Rest = entry 40 (codes "REST") kinds.Typed (by_number Rest)
row verb.Mdtm = entry 41 (codes "MDTM") kinds.Text (by_text Mdtm)
row verb.Md5 = entry 42 (codes "MD5") kinds.Text (by_text Md5)
row verb.Site = entry 43 [] kinds.Subcommand (by_named_text Site)
row verb.Other = entry 44 [] kinds.OptionalText (by_named_text Other)

abbrev pub number : Verb → ℕ
number verb = (row verb).number

abbrev pub word : Verb → Bytes
word verb = (row verb).word

abbrev pub kind : Verb → Kind
kind verb = (row verb).kind

abbrev pub command_by : Verb → Bytes → Value → Outcome
command_by verb = (row verb).command

-- The words of a line that are verbs, in upper case: the canonical ones, and others.
abbrev pub verbs : Rows (Bytes × Verb)
verbs = map (λ verb. (word verb, verb))
    (verb.User ∷ verb.Pass ∷ verb.Acct ∷ verb.Syst ∷ verb.Stat ∷ verb.TypeCode ∷ verb.Stru ∷
    verb.Mode ∷ verb.Help ∷ verb.Noop ∷ verb.Pasv ∷ verb.Epsv ∷ verb.Port ∷ verb.Retr ∷
    verb.Stor ∷ verb.Appe ∷ verb.List ∷ verb.Nlst ∷ verb.Mlst ∷ verb.Mlsd ∷ verb.Feat ∷ verb.Pwd ∷
    verb.Cwd ∷ verb.Cdup ∷ verb.Opts ∷ verb.Dele ∷ verb.Rmd ∷ verb.Quit ∷ verb.Mkd ∷ verb.Allo ∷
    verb.Abor ∷ verb.Stou ∷ verb.Rnfr ∷ verb.Rnto ∷ verb.Auth ∷ verb.Ccc ∷ verb.Pbsz ∷ verb.Prot ∷
    verb.Size ∷ verb.Rest ∷ verb.Mdtm ∷ [])
    ++ (codes "SITE", verb.Site) ∷ (codes "BYE", verb.Quit) ∷ (codes "XCWD", verb.Cwd)
    ∷ (codes "XMKD", verb.Mkd) ∷ (codes "XPWD", verb.Pwd) ∷ []

-- What is said of a command: a verb, a name and a value. The name is that of another subcommand of
-- SITE or of another verb, and else empty. The value of LIST is only the path.
pub record Said : Type 0 where
  pub verb : Verb
  pub name : Bytes
  pub value : Value

abbrev pub plain : Verb → Value → Said
plain verb value = record { verb = verb; name = []; value = value }

abbrev pub named : Verb → Bytes → Bytes → Said
named verb name arguments =
    record { verb = verb; name = name; value = maybe_text (unless_empty arguments) }

abbrev pub said : FtpCommand → Said
said (User name) = plain verb.User (maybe_raw (unless_empty name))
said (Pass password) = plain verb.Pass (maybe_raw (unless_empty password))
said (Acct account) = plain verb.Acct (maybe_raw (unless_empty account))
said Syst = plain verb.Syst Nothing
said (Stat path) = plain verb.Stat (maybe_raw path)
said TypeCode = plain verb.TypeCode Nothing
said (Stru structure) = plain verb.Stru (Chosen (choices.Structure structure))
said (Mode mode) = plain verb.Mode (Chosen (choices.Mode mode))
said Help = plain verb.Help Nothing
said Noop = plain verb.Noop Nothing
said Pasv = plain verb.Pasv Nothing
said Epsv = plain verb.Epsv Nothing
said (Port addr) = plain verb.Port (Text addr)
said (Retr path) = plain verb.Retr (Text path)
said (Stor path) = plain verb.Stor (Text path)
said (Appe path) = plain verb.Appe (Text path)
said (List options path) = plain verb.List (maybe_text path)
said (Nlst path) = plain verb.Nlst (maybe_text path)
said (Mlst path) = plain verb.Mlst (maybe_text path)
said (Mlsd path) = plain verb.Mlsd (maybe_text path)
said Feat = plain verb.Feat Nothing
said Pwd = plain verb.Pwd Nothing
said (Cwd path) = plain verb.Cwd (Text path)
said Cdup = plain verb.Cdup Nothing
said (Opts option) = plain verb.Opts (Chosen (choices.Setting option))
said (Dele path) = plain verb.Dele (Text path)
said (Rmd path) = plain verb.Rmd (Text path)
said Quit = plain verb.Quit Nothing
said (Mkd path) = plain verb.Mkd (Text path)
said Allo = plain verb.Allo Nothing
said Abor = plain verb.Abor Nothing
said Stou = plain verb.Stou Nothing
said (Rnfr file) = plain verb.Rnfr (Text file)
said (Rnto file) = plain verb.Rnto (Text file)
said (Auth protocol) = plain verb.Auth (Chosen (choices.Mechanism protocol))
said Ccc = plain verb.Ccc Nothing
said Pbsz = plain verb.Pbsz (Chosen choices.NoBuffer)
said (Prot param) = plain verb.Prot (Chosen (choices.Protection param))
said (Size file) = plain verb.Size (Text file)
said (Rest offset) = plain verb.Rest (Number offset)
said (Mdtm file) = plain verb.Mdtm (Text file)
said (Md5 file) = plain verb.Md5 (Text file)
said (Site name arguments) = named verb.Site name arguments
said (Other name arguments) = named verb.Other name arguments
