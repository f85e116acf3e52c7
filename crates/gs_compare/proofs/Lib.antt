mod Zipping
