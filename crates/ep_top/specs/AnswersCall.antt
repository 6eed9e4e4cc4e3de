-- One call was answered, noted, and its text waits to be written.
use Rattle.std.specs.Prelude.{◌≡◌, ℕ, ◌+◌, List, [], ◌∷◌, ◌++◌, length}
use Rattle.ep_model.specs.declared.call.Reply.{Reply}
use Rattle.ep_model.specs.declared.data.CallData.{CallData}
use Rattle.ep_model.specs.declared.data.EventData.{EventData}
use Rattle.ep_model.specs.declared.data.EventData.TheVariants.{Called}
use Rattle.ep_model.specs.World.{World}
use Rattle.ep_model.specs.Answer.{answer, apply}
use Rattle.mcbp_frame.specs.declared.frame.FrameData.{FrameData}
use Rattle.mcbp_ops.specs.Text.{reply_text}
use Rattle.conn_core.specs.declared.conn.Conn.{Conn}

pub record AnswersCall (frame : FrameData) (call : CallData) (now : ℕ) (old_world new_world : World) (before after : List (ℕ × EventData)) (old new : Conn) : Type 0 where
  pub reply : Reply
  pub value : List ℕ
  pub replied : reply ≡ (answer old_world call now).reply
  pub shown : value ≡ (answer old_world call now).value
  pub world : new_world ≡ apply old_world (answer old_world call now).effect
  pub noted : after ≡ before ++ (0, Called 0 call now reply value) ∷ []
  pub text : new.out.bytes ≡ old.out.bytes ++ reply_text frame reply value old.features.seqno
  pub features : new.features ≡ old.features
  pub out_room : new.out.spare + length new.out.bytes ≡ old.out.spare + length old.out.bytes
