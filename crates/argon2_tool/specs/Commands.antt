-- What the program is asked for, what it replies, and why it fails.
use Rattle.std.specs.Prelude.{ℕ, ◌≡◌, ◌≤◌, ◌<◌, ◌^◌, ◌==◌, if◌then◌else◌, Option, Some, None, IfSome, IsSome, Result, Ok, Err, MatchResult, ⊤, List, [], ◌∷◌, ◌++◌, ◌⊎◌, length, String, codes, string_bytes}
use Rattle.std.specs.Io.KnownBytes.{Appends, Keeps}
use Rattle.std.specs.Fmt.{decimal}
use Rattle.hex.specs.Hex.{encode_lower}
use Rattle.argon2_base.specs.Blake2b.{blake2b}
use Rattle.argon2_base.specs.LongHash.{long_hash}
use Rattle.argon2_base.specs.declared.error.Error.{Error}
use Rattle.argon2_base.specs.declared.error.Error.TheVariants.{AlgorithmInvalid, OutputTooShort, VersionInvalid}
use Rattle.argon2_base.specs.Error.{Fault, bad_encoding, fault_of}
use Rattle.argon2_base.specs.PhcText.{Phc, IsPhcText, phc_text}
use Rattle.argon2.specs.declared.algorithm.Algorithm.{Algorithm}
use Rattle.argon2.specs.declared.context.Argon2.{Argon2}
use Rattle.argon2.specs.declared.version.Version.{Version}
use Rattle.argon2.specs.Argon2.{context_with, secret_of, settings_of}
use Rattle.argon2.specs.StoredTexts.{Accepts, verify_outcome}
use Rattle.argon2.specs.Rfc9106.{tag_of}
use Rattle.argon2.specs.TextHashing.{hash_outcome}
use Rattle.argon2.specs.Refusals.{answer_unless, length_refusal}
use Rattle.argon2.specs.Settings.{SettingsValue, algorithm_named, first_fault, cost_parameters, version_numbered}
use Rattle.argon2_io.specs.Lines.{AppendsPrefix}
use Rattle.argon2_io.specs.declared.failure.Failure.TheVariants.{Output}
use Rattle.argon2_tool.specs.Failures.{IsOfInput, IsOfMemory}
use Rattle.argon2_tool.specs.declared.arguments.Command.{Command}
use Rattle.argon2_tool.specs.declared.arguments.Command.TheVariants.{Digest, Long, Tag, Phc as PhcCommand, Verify, Help, Version as VersionCommand}
use Rattle.argon2_tool.specs.declared.arguments.Request.{Request}
use Rattle.argon2_tool.specs.declared.failure.Failure.{Failure}
use Rattle.argon2_tool.specs.declared.failure.Failure.TheVariants.{Io, Hashing, Text}
use Rattle.argon2_tool.specs.declared.run.TheConstants.{HELP, VERSION}

-- ---- commands and their words

-- the numbers of a request are in range
abbrev pub IsRequest : Request → Type 0
IsRequest r = (r.version < 2 ^ 32) × (r.m_cost < 2 ^ 32) × (r.t_cost < 2 ^ 32) × (r.p_cost < 2 ^ 32)

-- the numbers of a command are in range
abbrev pub IsCommand : Command → Type 0
IsCommand (Digest len) = (1 ≤ len) × (len ≤ 64)
IsCommand (Long len) = len ≤ 1024
IsCommand (Tag request len salt) = IsRequest request × (len ≤ 1024)
IsCommand (PhcCommand request salt) = IsRequest request
IsCommand command = ⊤

-- the help or the version
abbrev pub IsPage : Command → Type 0
IsPage Help = ⊤
IsPage VersionCommand = ⊤
IsPage command = ⊥

-- the words of a request
abbrev pub request_words : Request → List (List ℕ)
request_words r =
    r.algorithm.now ∷ decimal r.version ∷ decimal r.m_cost ∷ decimal r.t_cost ∷ decimal r.p_cost ∷ []

-- the words of a command
abbrev pub command_words : Command → List (List ℕ)
command_words (Digest len) = codes "digest" ∷ decimal len ∷ []
command_words (Long len) = codes "long" ∷ decimal len ∷ []
command_words (Tag request len salt) = codes "tag" ∷ request_words request ++ decimal len ∷ salt.now ∷ []
command_words (PhcCommand request salt) = codes "phc" ∷ request_words request ++ salt.now ∷ []
command_words (Verify text) = codes "verify" ∷ text.now ∷ []
command_words Help = codes "--help" ∷ []
command_words VersionCommand = codes "--version" ∷ []

-- the words spell the command
abbrev pub Spells : List (List ℕ) → Command → Type 0
Spells words command = IsCommand command × (words ≡ command_words command)

-- a command that the words spell, if they spell one
pub record IsSpelled (words : List (List ℕ)) (r : Option Command) : Type 0 where
  pub found : IfSome r (λ command. Spells words command)
  pub only : (command : Command) → Spells words command → IsSome r

-- ---- replies

-- an algorithm, a version and costs as settings with no associated data, or why they are refused
abbrev pub settings_under : Option Algorithm → Option Version → Request → Result SettingsValue Error
settings_under None version r = Err AlgorithmInvalid
settings_under (Some algorithm) None r = Err VersionInvalid
settings_under (Some algorithm) (Some version) r = answer_unless (first_fault r.m_cost r.t_cost r.p_cost None)
    (record { algorithm = algorithm; version = version; parameters = cost_parameters r.m_cost r.t_cost r.p_cost None })

-- the settings that are asked for, under any length of output, or why they are refused
abbrev pub request_settings : Request → Result SettingsValue Error
request_settings r = settings_under (algorithm_named r.algorithm.now) (version_numbered r.version) r

-- the `Argon2` has the settings that the request asks for and no secret, or the error is the refusal of the settings
abbrev pub IsAsked : Request → Result Argon2 Error → Type 0
IsAsked r (Ok argon2) = (request_settings r ≡ Ok (settings_of argon2)) × (secret_of argon2 ≡ [])
IsAsked r (Err refusal) = request_settings r ≡ Err refusal

-- the variable-length hash of len bytes, in hex; a length of 0 is refused
abbrev pub long_reply : ℕ → List ℕ → Result (List ℕ) Error
long_reply len message = if len == 0 then Err OutputTooShort else Ok (encode_lower (long_hash len message))

-- the tag of len bytes under settings and no secret, in hex, or why it or the settings are refused
abbrev pub tag_reply : Result SettingsValue Error → ℕ → List ℕ → List ℕ → Result (List ℕ) Error
tag_reply (Err refusal) len salt password = Err refusal
tag_reply (Ok settings) len salt password =
    answer_unless (length_refusal settings.parameters.output_len len (length password) (length salt))
    (encode_lower (tag_of (context_with settings []) password salt len))

-- the text of the value that a password and a salt make under settings and no secret
abbrev pub IsPhcReply : Result SettingsValue Error → List ℕ → List ℕ → List ℕ → Type 0
IsPhcReply (Err refusal) salt password line = ⊥
IsPhcReply (Ok settings) salt password line = (v : Phc)
    × (hash_outcome (record { settings = settings; secret = [] }) password salt ≡ Ok v) × (line ≡ phc_text v)

-- the line is what a command replies to an input
abbrev pub Replies : Command → List ℕ → List ℕ → Type 0
Replies (Digest len) message line = line ≡ encode_lower (blake2b len message)
Replies (Long len) message line = long_reply len message ≡ Ok line
Replies (Tag request len salt) password line = tag_reply (request_settings request) len salt.now password ≡ Ok line
Replies (PhcCommand request salt) password line = IsPhcReply (request_settings request) salt.now password line
Replies (Verify text) password line = (line ≡ codes "ok") × Accepts [] password text.now
Replies Help input line = line ≡ HELP.now
Replies VersionCommand input line = line ≡ VERSION.now

-- ---- failures

-- the fault of hashing to a text under settings and no secret
abbrev pub IsPhcFault : Result SettingsValue Error → List ℕ → List ℕ → Fault → Type 0
IsPhcFault (Err refusal) salt password fault = ⊥
IsPhcFault (Ok settings) salt password fault =
    hash_outcome (record { settings = settings; secret = [] }) password salt ≡ Err fault

-- The fault of a text that does not accept the password. It is the fault of its value, or of the grammar.
abbrev pub IsVerifyFault : List ℕ → List ℕ → Fault → Type 0
IsVerifyFault password text fault = ((v : Phc) × IsPhcText text v × (verify_outcome [] password v ≡ Err fault))
    ⊎ (((v : Phc) → IsPhcText text v → ⊥) × (fault ≡ bad_encoding))

-- why a command has no reply to an input: the refusal of a call, or a failure before there is one
abbrev pub Fails : Command → List ℕ → Failure → Type 0
Fails (Long len) message (Hashing refusal) = long_reply len message ≡ Err refusal
Fails (Tag request len salt) password (Hashing refusal) =
    tag_reply (request_settings request) len salt.now password ≡ Err refusal
Fails (PhcCommand request salt) password (Hashing refusal) = request_settings request ≡ Err refusal
Fails (PhcCommand request salt) password (Text refusal) =
    IsPhcFault (request_settings request) salt.now password (fault_of refusal)
Fails (Verify text) password (Text refusal) = IsVerifyFault password text.now (fault_of refusal)
Fails Help input failure = IsOfMemory failure
Fails VersionCommand input failure = IsOfMemory failure
Fails command input failure = IsOfInput failure

-- the reply of a command to an input, or why it has no reply
abbrev pub IsReply : {Z : Type 0} → Command → List ℕ → Result (String Z) Failure → Type 0
IsReply command message r =
    MatchResult r (λ text. Replies command message (string_bytes text)) (Fails command message)

-- if the input is known, the command's reply to it is appended to a known output, as a line
abbrev pub AnswersCommand : Command → Option (List ℕ) → Option (List ℕ) → Option (List ℕ) → Type 0
AnswersCommand command input old new = IfSome input (λ message.
    (line : List ℕ) × Replies command message line × Appends old new (line ++ 10 ∷ []))

-- if the input is known, the command fails in one of two ways. Its line can't be written, and a known output grows by a prefix
-- of the line. Or the command has no reply, and the output is as before.
abbrev pub FailsBy : Command → Failure → Option (List ℕ) → Option (List ℕ) → Option (List ℕ) → Type 0
FailsBy command (Io (Output error)) input old new = IfSome input (λ message.
    (line : List ℕ) × Replies command message line × AppendsPrefix old new (line ++ 10 ∷ []))
FailsBy command failure input old new = IfSome input (λ message. Fails command message failure) × Keeps old new
