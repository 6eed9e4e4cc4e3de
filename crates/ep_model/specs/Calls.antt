-- Which document a call is on, and which it may write.
use Rattle.std.specs.Prelude.{ℕ, Bool, List, Option, Some, None, is_some}
use Rattle.ep_model.specs.declared.data.CallData.{CallData}
use Rattle.ep_model.specs.declared.data.CallData.TheVariants as calls

abbrev pub key_of : CallData → Option (List ℕ)
key_of (calls.Get key) = Some key
key_of (calls.Store kind key value flags expiration cas) = Some key
key_of (calls.Join front key value cas) = Some key
key_of (calls.Count down key delta initial expiration cas) = Some key
key_of (calls.Delete key cas) = Some key
key_of (calls.Touch key expiration fetch) = Some key
key_of call = None

abbrev pub has_key : CallData → Bool
has_key call = is_some (key_of call)

-- the key under which a call may put a document
abbrev pub written_key : CallData → Option (List ℕ)
written_key (calls.Get key) = None
written_key call = key_of call
