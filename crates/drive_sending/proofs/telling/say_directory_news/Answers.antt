use Rattle.drive_sending.proofs.telling.say_directory_news.Goals as goal

pub returns : goal.returns
returns g c = λ purpose base. c.say_properties.ensures
