use Rattle.command_answers.proofs.InEchoes.{echo_outcome}
use Rattle.command_answers.proofs.laws.echo_gives_its_frame.Goals as goal

pub returns : goal.returns
returns c =
    echo_outcome c.sent_frames.ensures.within c.sizes_of_an_echo.ensures c.places_of_an_echo.ensures.length c.places_of_an_echo.ensures.of_16_bits
    c.the_echo_of_a_frame_is_read.ensures.there
